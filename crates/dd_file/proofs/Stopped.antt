-- Where a run stops: a beginning of what comes out was written, and a beginning of what is told was heard.
use Rattle.std.proofs.Common.{◌≡◌, ◌∙◌, ℕ, ◌-◌, ◌<◌, ◌≤◌, inl, inr, Bool, true, false, List, [], ◌∷◌, ◌++◌, length, take, drop, refl, sym, ap, subst, arith, append_assoc, append-nil, take_all, take-append-drop, length-drop, Option}
use Rattle.std.specs.Prelude.{◌&&◌, nat_le}
use Rattle.dd_cards.specs.Hands.{FourHands}
use Rattle.dd_file.specs.declared.filler.Filler.{Filler}
use Rattle.dd_file.specs.declared.mark.TheConstants.{NEAR}
use Rattle.dd_file.specs.declared.wanted.Wanted.{Wanted}
use Rattle.dd_file.specs.Filled.{answers_after, ask_at, asked_here, asks_from, filled_from, first_of, has_place, state_here}
use Rattle.dd_file.specs.Games.{ends, has_name, next_state}
use Rattle.dd_file.specs.KnownTags.{known_number}
use Rattle.dd_file.specs.Marked.{begins_within, left_within, marked}
use Rattle.dd_file.specs.Marks.{Begins, tag}
use Rattle.dd_file.specs.Modes.{next_mode}
use Rattle.dd_file.specs.Notes.{notes_of}
use Rattle.dd_file.specs.Notices.{Notice, games_in_all}
use Rattle.dd_file.specs.Passing.{EndsHere, StopsAt, TellsHere, begins_now}
use Rattle.dd_file.specs.Quiet.{BeginsShort, Counts, IsPlace, PassesQuiet, PassesTag, required_number}
use Rattle.dd_file.specs.Told.{next_notes, told_from, told_here}
use Rattle.dd_file.specs.Windows.{Begun, Ended, Follows, Passed, PassesFront, Place, Stops, marked_at, place_of}
use Rattle.dd_file.proofs.Going.{AreAnswers-append, asks-byte, begins_within-near, over-here, over-then, takes, told-byte}
use Rattle.dd_file.proofs.Heard.{Hears-append, Hears-one, games_over-append}
use Rattle.dd_file.proofs.Passed.{EndsHere-before}
use Rattle.dd_file.proofs.ShortTags.{PassesFront-tag, short-begins, short-ends}
use Rattle.dd_file.proofs.Staying.{PassesFront-quiet}

module _ {S : Type 0} (gives : FourHands → Option (List (List ℕ)) → Type 0) (way : S → Notice → S → Type 0) where
  module _ (wanted : Wanted) where
    -- nothing was heard and written
    pub Begun-none : (is_all : Bool) (p : Place S) (heard : S) (before : List ℕ) → heard ≡ p.heard → Begun gives way is_all wanted p heard before []
    Begun-none is_all p heard before same =
        record {
          answers = [];
          asked = [];
          notices = [];
          right = tt;
          over = omega arith;
          hears = same;
          fills = λ more rest follows. record { rest = filled_from wanted more p.point.state (marked_at p.point (before ++ rest)); split = refl };
          asks = λ rest follows. record { rest = asks_from wanted p.point.state (marked_at p.point (before ++ rest)); split = refl };
          tells = λ more rest follows. record { rest = told_from wanted more p.point.state p.notes (marked_at p.point (before ++ rest)); split = refl };
        }

    -- a beginning of a text that comes out
    pub Begun-part : (is_all : Bool) (p q : Place S) (before after text written unwritten : List ℕ) → Passed gives way is_all wanted p q before after text → text ≡ written ++ unwritten
        → Begun gives way is_all wanted p q.heard before written
    Begun-part is_all p q before after text written unwritten passed split =
        record {
          answers = passed.answers;
          asked = passed.asked;
          notices = passed.notices;
          right = passed.right;
          over = passed.over;
          hears = passed.hears;
          fills = λ more rest follows.
              (let behind = filled_from wanted more q.point.state (marked_at q.point (after ++ rest)) in
              record { rest = unwritten ++ behind; split = passed.fills more rest follows ∙ ap (λ l. l ++ behind) split ∙ append_assoc written unwritten behind });
          asks = λ rest follows. record { rest = asks_from wanted q.point.state (marked_at q.point (after ++ rest)); split = passed.asks rest follows };
          tells = λ more rest follows. record { rest = told_from wanted more q.point.state q.notes (marked_at q.point (after ++ rest)); split = passed.tells more rest follows };
        }

    -- after what has come out
    pub Begun-then : (is_all : Bool) (p q : Place S) (heard : S) (b0 b1 t written : List ℕ) → Passed gives way is_all wanted p q b0 b1 t → Begun gives way is_all wanted q heard b1 written
        → Begun gives way is_all wanted p heard b0 (t ++ written)
    Begun-then is_all p q heard b0 b1 t written passed begun =
        record {
          answers = passed.answers ++ begun.answers;
          asked = passed.asked ++ begun.asked;
          notices = passed.notices ++ begun.notices;
          right = AreAnswers-append gives passed.asked begun.asked passed.answers begun.answers passed.right begun.right;
          over = over-then passed.answers begun.answers passed.notices begun.notices passed.over begun.over;
          hears = Hears-append way p.heard q.heard heard passed.notices begun.notices passed.hears begun.hears;
          fills = λ more rest follows.
              (let next = begun.fills more rest follows in
              record {
                rest = next.rest;
                split =
                    ap (λ a. filled_from wanted a p.point.state (marked_at p.point (b0 ++ rest))) (append_assoc passed.answers begun.answers more)
                    ∙ passed.fills (begun.answers ++ more) rest follows ∙ ap (λ l. t ++ l) next.split ∙ sym (append_assoc t written next.rest);
              });
          asks = λ rest follows.
              (let next = begun.asks rest follows in
              record { rest = next.rest; split = passed.asks rest follows ∙ ap (λ l. passed.asked ++ l) next.split ∙ sym (append_assoc passed.asked begun.asked next.rest) });
          tells = λ more rest follows.
              (let next = begun.tells more rest follows in
              record {
                rest = next.rest;
                split =
                    ap (λ a. told_from wanted a p.point.state p.notes (marked_at p.point (b0 ++ rest))) (append_assoc passed.answers begun.answers more)
                    ∙ passed.tells (begun.answers ++ more) rest follows ∙ ap (λ l. passed.notices ++ l) next.split ∙ sym (append_assoc passed.notices begun.notices next.rest);
              });
        }

    -- what came out is lost
    pub Begun-lost : (is_all : Bool) (p : Place S) (heard : S) (before written : List ℕ) → Begun gives way is_all wanted p heard before written → Begun gives way is_all wanted p heard before []
    Begun-lost is_all p heard before written begun =
        record {
          answers = begun.answers;
          asked = begun.asked;
          notices = begun.notices;
          right = begun.right;
          over = begun.over;
          hears = begun.hears;
          fills = λ more rest follows. record { rest = filled_from wanted (begun.answers ++ more) p.point.state (marked_at p.point (before ++ rest)); split = refl };
          asks = begun.asks;
          tells = begun.tells;
        }

    -- a beginning of what comes out to the end, where all was told
    pub Begun-ended : (p : Place S) (heard last : S) (games : ℕ) (before text written unwritten : List ℕ) → Ended gives way wanted p heard games before text → way heard (games_in_all games) last
        → text ≡ written ++ unwritten → Begun gives way true wanted p last before written
    Begun-ended p heard last games before text written unwritten ended counted split =
        record {
          answers = ended.answers;
          asked = asks_from wanted p.point.state (marked_at p.point before);
          notices = ended.notices ++ games_in_all games ∷ [];
          right = ended.right;
          over = (let all = games_over-append ended.notices (games_in_all games ∷ []) in omega (arith, all, ended.over));
          hears = Hears-append way p.heard heard last ended.notices (games_in_all games ∷ []) ended.hears (Hears-one way heard last _ counted);
          fills = λ more rest follows.
              record {
                rest = unwritten;
                split = ap (λ l. filled_from wanted (ended.answers ++ more) p.point.state (marked_at p.point l)) (whole rest follows) ∙ ended.fills more ∙ split;
              };
          asks = λ rest follows.
              record {
                rest = [];
                split = ap (λ l. asks_from wanted p.point.state (marked_at p.point l)) (whole rest follows) ∙ sym (append-nil (asks_from wanted p.point.state (marked_at p.point before)));
              };
          tells = λ more rest follows.
              record {
                rest = [];
                split =
                    ap (λ l. told_from wanted (ended.answers ++ more) p.point.state p.notes (marked_at p.point l)) (whole rest follows) ∙ ended.tells more
                    ∙ sym (append-nil (ended.notices ++ games_in_all games ∷ []));
              };
        }
      where
        whole : (rest : List ℕ) → rest ≡ [] → before ++ rest ≡ before
        whole rest none = ap (λ l. before ++ l) none ∙ append-nil before

    -- among the first of these bytes, whatever follows
    pub Begun-longer : (is_all : Bool) (p : Place S) (heard : S) (front piece written : List ℕ) → Begun gives way false wanted p heard front written → Begun gives way is_all wanted p heard (front ++ piece) written
    Begun-longer is_all p heard front piece written begun =
        record {
          answers = begun.answers;
          asked = begun.asked;
          notices = begun.notices;
          right = begun.right;
          over = begun.over;
          hears = begun.hears;
          fills = λ more rest follows.
              (let next = begun.fills more (piece ++ rest) tt in
              record { rest = next.rest; split = ap (λ l. filled_from wanted (begun.answers ++ more) p.point.state (marked_at p.point l)) (append_assoc front piece rest) ∙ next.split });
          asks = λ rest follows.
              (let next = begun.asks (piece ++ rest) tt in
              record { rest = next.rest; split = ap (λ l. asks_from wanted p.point.state (marked_at p.point l)) (append_assoc front piece rest) ∙ next.split });
          tells = λ more rest follows.
              (let next = begun.tells more (piece ++ rest) tt in
              record { rest = next.rest; split = ap (λ l. told_from wanted (begun.answers ++ more) p.point.state p.notes (marked_at p.point l)) (append_assoc front piece rest) ∙ next.split });
        }

  -- ---- at a byte
  -- the game that ends before the first byte was told of
  Stops-told : (is_all : Bool) (old : Filler) (s t : S) (before : List ℕ) (mark : Begins) → 0 < length before
      → ((rest : List ℕ) → Follows is_all rest → begins_within old.left old.mode (before ++ rest) ≡ mark) → TellsHere gives way old s t mark → Stops gives way is_all old s t before
  Stops-told is_all old s t [] mark some is told = absurd (omega arith)
  Stops-told is_all old s t (b ∷ tail) mark some is told =
      let here = ends old.state mark in
      let ask = ask_at (has_place mark) old.wanted old.state in
      let next = next_state (state_here here old.state) mark b in
      record {
        answers = told.answers;
        asked = asked_here here ask;
        notices = told_here here (has_place mark) old.wanted old.state (notes_of old) (first_of told.answers);
        right = told.right;
        over = over-here gives here (has_place mark) ask old.wanted old.state (notes_of old) told.answers told.right;
        hears = told.hears;
        fills = λ more rest follows. record { rest = filled_from old.wanted (told.answers ++ more) old.state (marked_at (place_of old s).point ((b ∷ tail) ++ rest)); split = refl };
        asks = λ rest follows. record { rest = _; split = asks-byte old.wanted old.state old.left old.mode b (tail ++ rest) mark (is rest follows) };
        tells = λ more rest follows.
            (let behind = told_from old.wanted (answers_after here (told.answers ++ more)) next (next_notes old.state mark (notes_of old))
            (marked (left_within old.left mark) (next_mode old.mode b) (tail ++ rest)) in
            record {
              rest = behind;
              split =
                  told-byte old.wanted (told.answers ++ more) old.state (notes_of old) old.left old.mode b (tail ++ rest) mark (is rest follows)
                  ∙ ap (λ l. l ++ behind) ((takes gives here ask old.wanted old.state told.answers more told.right).told (has_place mark) (notes_of old));
            });
      }

  pub Stops-none : (is_all : Bool) (old : Filler) (s t : S) (before : List ℕ) → t ≡ s → Stops gives way is_all old s t before
  Stops-none is_all old s t before same = Begun-none old.wanted is_all (place_of old s) t before same

  -- or not
  Stops-at : (is_all : Bool) (old : Filler) (s t : S) (before : List ℕ) (mark : Begins) → 0 < length before
      → ((rest : List ℕ) → Follows is_all rest → begins_within old.left old.mode (before ++ rest) ≡ mark) → StopsAt gives way old s t mark → Stops gives way is_all old s t before
  Stops-at is_all old s t before mark some is (inl same) = Stops-none is_all old s t before same
  Stops-at is_all old s t before mark some is (inr told) = Stops-told is_all old s t before mark some is told

  -- by what is near
  pub Stops-first : (is_all : Bool) (old : Filler) (s t : S) (rest near : List ℕ) (near_all : Bool) → 0 < length rest → (is_all ≡ false → NEAR < length rest) → near ≡ take NEAR rest
      → near_all ≡ (is_all && nat_le (length rest) NEAR) → StopsAt gives way old s t (begins_now old.left old.mode near_all near) → Stops gives way is_all old s t rest
  Stops-first is_all old s t rest near near_all some room is all stops =
      Stops-at is_all old s t rest (begins_now old.left old.mode near_all near) some
      (λ behind follows. begins_within-near old.left old.mode is_all rest behind room follows
      ∙ ap (λ (a : Bool). begins_now old.left old.mode a (take NEAR rest)) (sym all) ∙ ap (begins_now old.left old.mode near_all) (sym is)) stops

  -- at a tag on one line
  pub Stops-tag : (old ended : Filler) (s t : S) (is_first here : Bool) (text name quoted rest : List ℕ) (count : ℕ) (number : Option ℕ) (o0 o1 : List ℕ) → old.left ≡ 0 → IsPlace old.mode is_first
      → BeginsShort text name quoted rest → count ≡ length text - length rest → count ≤ NEAR → number ≡ known_number name
      → here ≡ (old.state.begun && has_name (required_number number) old.state.names) → EndsHere gives way old ended s t here is_first o0 o1 → Stops gives way false old s t text
  Stops-tag old ended s t is_first here text name quoted rest count number o0 o1 outside place short counted few known ends_here ended_here =
      let mark = tag is_first count name quoted in
      let some : 0 < length text = subst (λ (l : List ℕ). 0 < length l) (sym short.spelled) (omega arith) in
      let before = EndsHere-before gives way old ended s t mark here is_first o0 o1 (ends_here ∙ short-ends number name old.state known) refl ended_here in
      Stops-told false old s t text mark some (λ more follows. short-begins old.left old.mode is_first text name quoted rest count outside place short counted few more)
      (record { answers = before.answers; right = before.right; hears = before.hears })

  -- ---- behind a stretch
  pub front-then-stops : (is_all : Bool) (old mid : Filler) (s t u : S) (before after o0 o1 : List ℕ) → PassesFront gives way is_all old mid s t before after o0 o1 → Stops gives way is_all mid t u after
      → Stops gives way is_all old s u before
  front-then-stops is_all old mid s t u before after o0 o1 front stops =
      Begun-lost old.wanted is_all (place_of old s) u before (front.text ++ [])
      (Begun-then old.wanted is_all (place_of old s) (place_of mid t) u before after front.text [] front.passed
      (subst (λ (w : Wanted). Begun gives way is_all w (place_of mid t) u after []) front.wanted stops))

  -- among the first of these bytes
  pub Stops-front : (is_all : Bool) (old : Filler) (s t : S) (rest : List ℕ) (most : ℕ) → Stops gives way false old s t (take most rest) → Stops gives way is_all old s t rest
  Stops-front is_all old s t rest most stops =
      subst (λ (l : List ℕ). Begun gives way is_all old.wanted (place_of old s) t l []) (take-append-drop most rest)
      (Begun-longer old.wanted is_all (place_of old s) t (take most rest) (drop most rest) [] stops)

  -- the rest of a window
  pub Stops-rest : (is_all : Bool) (old : Filler) (s t : S) (window : List ℕ) (at : ℕ) → at ≤ length window → Stops gives way is_all old s t (take (length window - at) (drop at window))
      → Stops gives way is_all old s t (drop at window)
  Stops-rest is_all old s t window at within stops =
      let all : take (length window - at) (drop at window) ≡ drop at window = take_all (length window - at) (drop at window) (omega (arith, length-drop {A = ℕ})) in
      subst (λ (l : List ℕ). Stops gives way is_all old s t l) all stops

  -- behind bytes that come out alone
  pub quiet-then-stops : (is_all : Bool) (old mid : Filler) (s t : S) (rest : List ℕ) (most count : ℕ) (o0 o1 : List ℕ) → most ≤ length rest → PassesQuiet old mid (take most rest) count o0 o1
      → Counts old mid count → count < most → Stops gives way is_all mid s t (take (length rest - count) (drop count rest)) → Stops gives way is_all old s t rest
  quiet-then-stops is_all old mid s t rest most count o0 o1 room passes counts under stops =
      let few : count ≤ most = omega arith in
      let reached : count ≤ length rest = omega arith in
      front-then-stops is_all old mid s s t rest (drop count rest) o0 o1 (PassesFront-quiet gives way is_all old mid s rest most count o0 o1 room passes counts few)
      (Stops-rest is_all mid s t rest count reached stops)

  -- behind no tag
  pub tag-then-stops : (is_all : Bool) (old mid : Filler) (s t u : S) (rest : List ℕ) (most count : ℕ) (o0 o1 : List ℕ) → PassesTag gives way old mid (notes_of mid) s t (take most rest) count o0 o1
      → count ≤ 0 → Stops gives way is_all mid t u rest → Stops gives way is_all old s u rest
  tag-then-stops is_all old mid s t u rest most count o0 o1 passes none stops =
      let zero_count : count ≡ 0 = omega arith in
      let few : count ≤ most = omega arith in
      front-then-stops is_all old mid s t u rest rest o0 o1
      (subst (λ (n : ℕ). PassesFront gives way is_all old mid s t rest (drop n rest) o0 o1) zero_count (PassesFront-tag gives way is_all old mid s t rest most count o0 o1 few passes)) stops
