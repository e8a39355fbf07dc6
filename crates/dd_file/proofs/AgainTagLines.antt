-- Lines of tags and of rows are passed over, with their ends.
use Rattle.std.proofs.Common.{◌≡◌, ◌∙◌, ℕ, suc, ◌==◌, ◌-◌, ◌≤◌, Bool, true, false, List, [], ◌∷◌, ◌++◌, length, take, refl, sym, ap, subst, arith, append_assoc, append-nil, inr, Option, None, Ok}
use Rattle.std.specs.Prelude.{if◌then◌else◌, slice_set}
use Rattle.dd_file.specs.declared.fill_state.FillState.{FillState}
use Rattle.dd_file.specs.declared.mode.Mode.{Mode}
use Rattle.dd_file.specs.declared.mode.Mode.TheVariants.{Head, Mark1, Mark2, Start, Plain, Escaped, Remark, Braced, Quoted, Backslash}
use Rattle.dd_file.specs.Games.{has_name, is_required, with_byte, with_tag}
use Rattle.dd_file.specs.Lines.{line_with}
use Rattle.dd_file.specs.Marked.{begins, marked}
use Rattle.dd_file.specs.Marks.{tag, line_mark, mark_at, mark_read}
use Rattle.dd_file.specs.Modes.{next_mode}
use Rattle.dd_file.specs.Quiet.{are_names}
use Rattle.dd_file.specs.Tags.{after_string, front_of, is_gap, is_name, tag_at}
use Rattle.dd_file.proofs.AgainMarks.{blank-stop, is_all, line-begins, line-read}
use Rattle.dd_file.proofs.AgainOver.{Goes, Spot, Walk, at_spot, goes-byte, goes-then, goes-within, is_quiet, last_of, last-append, modes, modes-append, plain-nothing, quiet-append, spot}
use Rattle.dd_file.proofs.AgainTags.{as_tag}
use Rattle.dd_file.proofs.ShortTags.{name-read, near-split, opened-read, split-size, value-read}

-- ---- line ends
-- where a line end ends the line, and no tag begins at it
abbrev pub IsOpen : Mode → Type 0
IsOpen Plain = Unit {0}
IsOpen Escaped = Unit {0}
IsOpen Remark = Unit {0}
IsOpen Quoted = Unit {0}
IsOpen Backslash = Unit {0}
IsOpen Start = ⊥
IsOpen Braced = ⊥
IsOpen Head = ⊥
IsOpen Mark1 = ⊥
IsOpen Mark2 = ⊥

module _ {X : Type 0} (walk : Walk X) (state : FillState) where
  goes-feed : (names : List Bool) (last : ℕ) (has : Bool) (mode : Mode) → IsOpen mode → Goes walk state (10 ∷ []) (spot names last has 0 mode) (spot names 10 (last == 13) 0 Start)
  unfolding mark_at
  goes-feed names last has Plain free = goes-byte walk state 10 (spot names last has 0 Plain) (λ r. plain-nothing 10 r refl)
  goes-feed names last has Escaped free = goes-byte walk state 10 (spot names last has 0 Escaped) (λ r. refl)
  goes-feed names last has Remark free = goes-byte walk state 10 (spot names last has 0 Remark) (λ r. refl)
  goes-feed names last has Quoted free = goes-byte walk state 10 (spot names last has 0 Quoted) (λ r. refl)
  goes-feed names last has Backslash free = goes-byte walk state 10 (spot names last has 0 Backslash) (λ r. refl)
  goes-feed names last has Start free = absurd free
  goes-feed names last has Braced free = absurd free
  goes-feed names last has Head free = absurd free
  goes-feed names last has Mark1 free = absurd free
  goes-feed names last has Mark2 free = absurd free

  goes-return : (names : List Bool) (last : ℕ) (has : Bool) (mode : Mode) → IsOpen mode → Goes walk state (13 ∷ []) (spot names last has 0 mode) (spot names 13 has 0 (next_mode mode 13))
  unfolding mark_at
  goes-return names last has Plain free = goes-byte walk state 13 (spot names last has 0 Plain) (λ r. plain-nothing 13 r refl)
  goes-return names last has Escaped free = goes-byte walk state 13 (spot names last has 0 Escaped) (λ r. refl)
  goes-return names last has Remark free = goes-byte walk state 13 (spot names last has 0 Remark) (λ r. refl)
  goes-return names last has Quoted free = goes-byte walk state 13 (spot names last has 0 Quoted) (λ r. refl)
  goes-return names last has Backslash free = goes-byte walk state 13 (spot names last has 0 Backslash) (λ r. refl)
  goes-return names last has Start free = absurd free
  goes-return names last has Braced free = absurd free
  goes-return names last has Head free = absurd free
  goes-return names last has Mark1 free = absurd free
  goes-return names last has Mark2 free = absurd free

  free-return : (mode : Mode) → IsOpen mode → IsOpen (next_mode mode 13)
  free-return Plain free = tt
  free-return Escaped free = tt
  free-return Remark free = tt
  free-return Quoted free = tt
  free-return Backslash free = tt
  free-return Start free = absurd free
  free-return Braced free = absurd free
  free-return Head free = absurd free
  free-return Mark1 free = absurd free
  free-return Mark2 free = absurd free

  -- whether the last line end had a carriage return, behind one that has it or not
  abbrev pub return_behind : Bool → ℕ → Bool
  return_behind true last = true
  return_behind false last = last == 13

  goes-end : (has_return : Bool) (names : List Bool) (last : ℕ) (has : Bool) (mode : Mode) → IsOpen mode
      → Goes walk state (if has_return then 13 ∷ 10 ∷ [] else 10 ∷ []) (spot names last has 0 mode) (spot names 10 (return_behind has_return last) 0 Start)
  goes-end false names last has mode free = goes-feed names last has mode free
  goes-end true names last has mode free =
      goes-then walk state (13 ∷ []) (10 ∷ []) (spot names last has 0 mode) (spot names 13 has 0 (next_mode mode 13)) (spot names 10 true 0 Start)
      (goes-return names last has mode free) (goes-feed names 13 has (next_mode mode 13) (free-return mode free))

  -- ---- lines
  -- from the start of a line to its end, the names changed so
  abbrev pub IsBody : List ℕ → (List Bool → List Bool) → Type 0
  IsBody body f = (names : List Bool) (last : ℕ) (has : Bool) → (after : ℕ) × ((after == 13) ≡ false) × Goes walk state body (spot names last has 0 Start) (spot (f names) after has 0 Plain)

  -- lines with their ends behind them leave the start of a line, those with ends before them are begun where a line can end, and end so
  abbrev pub Passes : Bool → Bool → List ℕ → (List Bool → List Bool) → Type 0
  Passes false has_return p f = (names : List Bool) → Goes walk state p (spot names 10 has_return 0 Start) (spot (f names) 10 has_return 0 Start)
  Passes true has_return p f =
      (names : List Bool) (last : ℕ) (has : Bool) (mode : Mode) → IsOpen mode
      → (after : ℕ) × (had : Bool) × (next : Mode) × IsOpen next × Goes walk state p (spot names last has 0 mode) (spot (f names) after had 0 next)

  pub passes-none : (leads has_return : Bool) → Passes leads has_return [] (λ names. names)
  passes-none false has_return = λ names r. refl
  passes-none true has_return = λ names last has mode free. (last, has, mode, free, λ r. refl)

  pub passes-then : (leads has_return : Bool) (p q : List ℕ) (f g : List Bool → List Bool) → Passes leads has_return p f → Passes leads has_return q g → Passes leads has_return (p ++ q) (λ names. g (f names))
  passes-then false has_return p q f g first second =
      λ names. goes-then walk state p q (spot names 10 has_return 0 Start) (spot (f names) 10 has_return 0 Start) (spot (g (f names)) 10 has_return 0 Start) (first names) (second (f names))
  passes-then true has_return p q f g first second =
      λ names last has mode free. (
      let one = first names last has mode free in
      let two = second (f names) one.0 one.1 one.2 one.3 in (
        two.0,
        two.1,
        two.2,
        two.3,
        goes-then walk state p q (spot names last has 0 mode) (spot (f names) one.0 one.1 0 one.2) (spot (g (f names)) two.0 two.1 0 two.2) one.4 two.4,
      ))

  pub passes-line : (leads has_return : Bool) (body : List ℕ) (f : List Bool → List Bool) → IsBody body f
      → Passes leads has_return (line_with (record { has_return = has_return; leads = leads }) body) f
  unfolding line_with
  passes-line false has_return body f is =
      λ names. (
      let one = is names 10 has_return in
      let behind : return_behind has_return one.0 ≡ has_return = same has_return one.0 one.1 in
      let e : List ℕ = (if has_return then 13 ∷ 10 ∷ [] else 10 ∷ []) in
      goes-then walk state body e (spot names 10 has_return 0 Start) (spot (f names) one.0 has_return 0 Plain) (spot (f names) 10 has_return 0 Start) one.2
      (subst (λ (b : Bool). Goes walk state e (spot (f names) one.0 has_return 0 Plain) (spot (f names) 10 b 0 Start)) behind (goes-end has_return (f names) one.0 has_return Plain tt)))
    where
      same : (h : Bool) (last : ℕ) → (last == 13) ≡ false → return_behind h last ≡ h
      same true last e = refl
      same false last e = e
  passes-line true has_return body f is =
      λ names last has mode free. (
      let e : List ℕ = (if has_return then 13 ∷ 10 ∷ [] else 10 ∷ []) in
      let one = is names 10 (return_behind has_return last) in
      let after : Spot = spot (f names) one.0 (return_behind has_return last) 0 Plain in (
        one.0,
        return_behind has_return last,
        Plain,
        tt,
        subst (λ (l : List ℕ). Goes walk state l (spot names last has 0 mode) after) (sym (append-nil (e ++ body)))
            (goes-then walk state e body (spot names last has 0 mode) (spot names 10 (return_behind has_return last) 0 Start) after (goes-end has_return names last has mode free) one.2),
      ))

  -- ---- tags
  -- a tag's bytes behind its bracket
  abbrev pub tag_rest : List ℕ → List ℕ → List ℕ
  tag_rest name content = name ++ 32 ∷ 34 ∷ (content ++ 34 ∷ 93 ∷ [])

  tag-rest : (name content r : List ℕ) → tag_rest name content ++ r ≡ name ++ 32 ∷ 34 ∷ (content ++ 34 ∷ 93 ∷ r)
  tag-rest name content r = append_assoc name (32 ∷ 34 ∷ (content ++ 34 ∷ 93 ∷ [])) r ∙ ap (λ l. name ++ 32 ∷ 34 ∷ l) (append_assoc content (34 ∷ 93 ∷ []) r)

  -- what a tag's name has to be, which is seen by looking
  pub record IsTagName (c : ℕ) (name : List ℕ) (number : ℕ) : Type 0 where
    pub names : are_names (c ∷ name) ≡ true
    pub first : is_name c ≡ true
    pub gap : is_gap Plain c ≡ false
    pub quiet : is_quiet (c ∷ name) ≡ true
    pub plain : modes Plain (c ∷ name) ≡ Plain
    pub optional : is_required (c ∷ name) ≡ None
    pub tells : (quoted : List ℕ) (st : FillState) → with_tag (c ∷ name) quoted st ≡ record st { begun = true; names = slice_set st.names number true }

  -- a string's bytes
  pub record IsContent (content : List ℕ) : Type 0 where
    pub read : (t : List ℕ) → after_string Quoted (content ++ 34 ∷ t) ≡ Ok t
    pub quoted : modes Quoted content ≡ Quoted
    pub quiet : is_quiet content ≡ true

  tag-begins : (p called : List ℕ) → ((r : List ℕ) → (quoted : List ℕ) × (tag_at (91 ∷ (p ++ r)) ≡ as_tag called quoted r)) → length p ≤ 65535 → (r : List ℕ)
      → (quoted : List ℕ) × (begins Start (91 ∷ (p ++ r)) ≡ tag true (suc (length p)) called quoted)
  tag-begins p called reads few r = (
    quoted,
    line-begins Start 91 (p ++ r) (inr refl) ∙ ap (λ k. line_mark (is_all 91 (p ++ r)) (91 ∷ take 65535 (p ++ r)) k) (blank-stop 91 (take 65535 (p ++ r)) refl)
        ∙ line-read (is_all 91 (p ++ r)) (91 ∷ take 65535 (p ++ r)) 91 (take 65535 (p ++ r))
        ∙ ap (mark_read true (is_all 91 (p ++ r)) (91 ∷ take 65535 (p ++ r))) read
        ∙ ap (λ (n : ℕ). tag true n called quoted) (split-size (91 ∷ take 65535 (p ++ r)) p (take (65535 - length p) r) (near-split 65535 p r few)),
  )
    where
      quoted : List ℕ
      quoted = (reads (take (65535 - length p) r)).0

      read : tag_at (91 ∷ take 65535 (p ++ r)) ≡ as_tag called (reads (take (65535 - length p) r)).0 (take (65535 - length p) r)
      read = ap tag_at (near-split 65535 p r few) ∙ (reads (take (65535 - length p) r)).1

  tag-body : (p called : List ℕ) (number : ℕ) → ((r : List ℕ) → (quoted : List ℕ) × (tag_at (91 ∷ (p ++ r)) ≡ as_tag called quoted r)) → length p ≤ 65535
      → is_required called ≡ None → ((quoted : List ℕ) (st : FillState) → with_tag called quoted st ≡ record st { begun = true; names = slice_set st.names number true })
      → is_quiet p ≡ true → modes Plain p ≡ Plain → (last_of 91 p == 13) ≡ false → IsBody (91 ∷ p) (λ names. slice_set names number true)
  tag-body p called number reads few optional tells quiet plain other = λ names last has. (last_of 91 p, other, λ r. steps names last has r (tag-begins p called reads few r))
    where
      steps : (names : List Bool) (last : ℕ) (has : Bool) (r : List ℕ) → (quoted : List ℕ) × (begins Start (91 ∷ (p ++ r)) ≡ tag true (suc (length p)) called quoted)
          → walk.seen (at_spot state (spot names last has 0 Start)) (marked 0 Start (91 ∷ (p ++ r)))
          ≡ walk.seen (at_spot state (spot (slice_set names number true) (last_of 91 p) has 0 Plain)) (marked 0 Plain r)
      steps names last has r mark =
          let s : FillState = at_spot state (spot names last has 0 Start) in
          let after : FillState = at_spot state (spot (slice_set names number true) 91 has (suc (length p) - 1) Plain) in
          walk.step s 0 Start 91 (p ++ r) (tag true (suc (length p)) called mark.0) mark.1 (ap (λ (o : Option ℕ). has_name o names) optional)
          ∙ ap (λ (t : FillState). walk.seen (with_byte 91 t) (marked (suc (length p) - 1) Plain (p ++ r))) (tells mark.0 s)
          ∙ goes-within walk state p (spot (slice_set names number true) 91 has (suc (length p) - 1) Plain) (let e : suc (length p) - 1 ≡ length p = omega arith in e) quiet r
          ∙ ap (λ (m : Mode). walk.seen (at_spot state (spot (slice_set names number true) (last_of 91 p) has 0 m)) (marked 0 m r)) plain

  pub tag-line : (c : ℕ) (name content : List ℕ) (number : ℕ) → IsTagName c name number → IsContent content → length (tag_rest (c ∷ name) content) ≤ 65535
      → IsBody (91 ∷ tag_rest (c ∷ name) content) (λ names. slice_set names number true)
  tag-line c name content number named is few =
      tag-body (tag_rest (c ∷ name) content) (c ∷ name) number reads few named.optional named.tells
      (quiet-append (c ∷ name) (32 ∷ 34 ∷ (content ++ 34 ∷ 93 ∷ [])) named.quiet (quiet-append content (34 ∷ 93 ∷ []) is.quiet refl))
      (modes-append Plain (c ∷ name) (32 ∷ 34 ∷ (content ++ 34 ∷ 93 ∷ [])) ∙ ap (λ (m : Mode). modes m (32 ∷ 34 ∷ (content ++ 34 ∷ 93 ∷ []))) named.plain
      ∙ modes-append Quoted content (34 ∷ 93 ∷ []) ∙ ap (λ (m : Mode). modes m (34 ∷ 93 ∷ [])) is.quoted)
      (ap (λ (n : ℕ). n == 13) (last-append 91 (c ∷ name) (32 ∷ 34 ∷ (content ++ 34 ∷ 93 ∷ [])) ∙ last-append 34 content (34 ∷ 93 ∷ [])))
    where
      reads : (r : List ℕ) → (quoted : List ℕ) × (tag_at (91 ∷ (tag_rest (c ∷ name) content ++ r)) ≡ as_tag (c ∷ name) quoted r)
      reads r = (
        front_of (content ++ 34 ∷ 93 ∷ r) (93 ∷ r) 1,
        ap (λ l. tag_at (91 ∷ l)) (tag-rest (c ∷ name) content r) ∙ opened-read c (name ++ 32 ∷ 34 ∷ (content ++ 34 ∷ 93 ∷ r)) named.gap
            ∙ name-read c name (34 ∷ (content ++ 34 ∷ 93 ∷ r)) named.names named.first ∙ value-read (c ∷ name) (content ++ 34 ∷ 93 ∷ r) r (is.read (93 ∷ r)),
      )
