-- values and tags: what is read has the form and is noted, and what has the form is read
use Rattle.std.proofs.Common.{◌≡◌, ℕ, cond, refl, sym, ap, ◌∙◌, subst, List, [], ◌∷◌, ◌++◌, length, append_assoc, append-nil, Option, Some, None}
use Rattle.std.specs.Prelude.{◌==◌, codes}
use Rattle.std.specs.Char.{to_ascii_uppercase}
use Rattle.std.proofs.lemmas.Bool.{eqb-true}
use Rattle.std.proofs.lemmas.List.{nil_from_length}
use Rattle.std.proofs.lemmas.Option.{cond_some}
use Rattle.dd_cards.specs.declared.seat.Seat.{Seat}
use Rattle.dd_cards.specs.Seats.{next_seat, seat_after}
use Rattle.dd_pbn.specs.declared.hands_so_far.HandsSoFar.{HandsSoFar}
use Rattle.dd_pbn.specs.Letters.{seat_letter, is_blank, AreBlanks}
use Rattle.dd_pbn.specs.Values.{HandText, IsHand, IsGap, hand_bytes, Value, IsValue, IsTag}
use Rattle.dd_pbn.specs.Reading.{◌>>=◌, nothing, after_blanks, byte_at, at_end, seat_at, hand_at, next_hand, hands_at, value_at, value_of, name_at, quoted_at, tag_of}
use Rattle.dd_pbn.proofs.Bytes.{is_letter, Ends, Ends-blanks, gap-ends, quote-none, seat-solid}
use Rattle.dd_pbn.proofs.Blanks.{bind-some, byte_at-tells, byte_at-takes, blanks-sound, blanks-complete, seat-sound, seat-complete, name-sound, name-complete, name-solid}
use Rattle.dd_pbn.proofs.HandTexts.{note_hand, hand-sound, hand-complete, hand-solid, next_hand-sound, next_hand-complete}

-- the four hands noted, each at its seat
abbrev pub seen_of : Value → HandsSoFar
seen_of value =
    note_hand (seat_after value.first 3) value.hand4 (note_hand (seat_after value.first 2) value.hand3 (note_hand (seat_after value.first 1) value.hand2 (note_hand value.first value.hand1 nothing)))

-- ---- four hands
-- the text is four hands with gaps between them, and what is left; the hands are noted
record HandsRead (first : Seat) (text : List ℕ) (read : HandsSoFar × List ℕ) : Type 0 where
  hand1 : HandText
  hand2 : HandText
  hand3 : HandText
  hand4 : HandText
  gap2 : List ℕ
  gap3 : List ℕ
  gap4 : List ℕ
  are : IsHand hand1 × IsHand hand2 × IsHand hand3 × IsHand hand4
  gaps : IsGap gap2 × IsGap gap3 × IsGap gap4
  spelled : text ≡ hand_bytes hand1 ++ (gap2 ++ (hand_bytes hand2 ++ (gap3 ++ (hand_bytes hand3 ++ (gap4 ++ (hand_bytes hand4 ++ read.1))))))
  noted : read.0 ≡ seen_of (record { first = first; hand1 = hand1; hand2 = hand2; hand3 = hand3; hand4 = hand4 })

-- the parts of four hands, put together
four-hands : (h1 g2 h2 g3 h3 g4 h4 text t1 t2 t3 rest : List ℕ) → text ≡ h1 ++ t1 → t1 ≡ g2 ++ (h2 ++ t2) → t2 ≡ g3 ++ (h3 ++ t3) → t3 ≡ g4 ++ (h4 ++ rest)
    → text ≡ h1 ++ (g2 ++ (h2 ++ (g3 ++ (h3 ++ (g4 ++ (h4 ++ rest))))))
four-hands h1 g2 h2 g3 h3 g4 h4 text t1 t2 t3 rest e0 e1 e2 e3 = rw (e0, e1, e2, e3) refl

-- what is noted hand by hand is the value noted
hands-noted : (value : Value) (s1 s2 s3 s4 : HandsSoFar) → s1 ≡ note_hand value.first value.hand1 nothing → s2 ≡ note_hand (seat_after value.first 1) value.hand2 s1
    → s3 ≡ note_hand (seat_after value.first 2) value.hand3 s2 → s4 ≡ note_hand (seat_after value.first 3) value.hand4 s3 → s4 ≡ seen_of value
hands-noted value s1 s2 s3 s4 e1 e2 e3 e4 =
    e4
    ∙ ap (note_hand (seat_after value.first 3) value.hand4) (e3
    ∙ ap (note_hand (seat_after value.first 2) value.hand3) (e2
    ∙ ap (note_hand (seat_after value.first 1) value.hand2) e1))

-- what is read is four hands
hands-sound : (first : Seat) (text : List ℕ) (read : HandsSoFar × List ℕ) → hands_at first text ≡ Some read → HandsRead first text read
unfolding hands_at
hands-sound first text read h =
    let p1 = hand_at first nothing text in
    let p2 = p1 >>= next_hand (next_seat first) in
    let p3 = p2 >>= next_hand (next_seat (next_seat first)) in
    let b3 = bind-some p3 (next_hand (next_seat (next_seat (next_seat first)))) read h in
    let b2 = bind-some p2 (next_hand (next_seat (next_seat first))) b3.0 b3.1 in
    let b1 = bind-some p1 (next_hand (next_seat first)) b2.0 b2.1 in
    let one = hand-sound first nothing text b1.0 b1.1 in
    let two = next_hand-sound (next_seat first) b1.0 b2.0 b1.2 in
    let three = next_hand-sound (next_seat (next_seat first)) b2.0 b3.0 b2.2 in
    let four = next_hand-sound (next_seat (next_seat (next_seat first))) b3.0 read b3.2 in
    record {
      hand1 = one.hand;
      hand2 = two.hand;
      hand3 = three.hand;
      hand4 = four.hand;
      gap2 = two.gap;
      gap3 = three.gap;
      gap4 = four.gap;
      are = (one.is, two.is, three.is, four.is);
      gaps = (two.apart, three.apart, four.apart);
      spelled = four-hands (hand_bytes one.hand) two.gap (hand_bytes two.hand) three.gap (hand_bytes three.hand) four.gap (hand_bytes four.hand) text b1.0.1 b2.0.1 b3.0.1 read.1
          one.spelled two.spelled three.spelled four.spelled;
      noted = hands-noted (record { first = first; hand1 = one.hand; hand2 = two.hand; hand3 = three.hand; hand4 = four.hand }) b1.0.0 b2.0.0 b3.0.0 read.0 one.noted two.noted three.noted four.noted;
    }

-- four hands are read, where no letter follows them
hands-complete : (first : Seat) (h1 h2 h3 h4 : HandText) (g2 g3 g4 rest : List ℕ) → IsHand h1 → IsHand h2 → IsHand h3 → IsHand h4 → IsGap g2 → IsGap g3 → IsGap g4 → Ends is_letter rest
    → hands_at first (hand_bytes h1 ++ (g2 ++ (hand_bytes h2 ++ (g3 ++ (hand_bytes h3 ++ (g4 ++ (hand_bytes h4 ++ rest)))))))
    ≡ Some (seen_of (record { first = first; hand1 = h1; hand2 = h2; hand3 = h3; hand4 = h4 }), rest)
unfolding hands_at
hands-complete first h1 h2 h3 h4 g2 g3 g4 rest i1 i2 i3 i4 a2 a3 a4 ends =
    let t3 : List ℕ = g4 ++ (hand_bytes h4 ++ rest) in
    let t2 : List ℕ = g3 ++ (hand_bytes h3 ++ t3) in
    let t1 : List ℕ = g2 ++ (hand_bytes h2 ++ t2) in
    let s1 = note_hand first h1 nothing in
    let s2 = note_hand (next_seat first) h2 s1 in
    let s3 = note_hand (next_seat (next_seat first)) h3 s2 in
    let one = hand-complete first nothing h1 t1 i1 (gap-ends g2 (hand_bytes h2 ++ t2) a2) in
    let two = next_hand-complete (next_seat first) s1 g2 h2 t2 a2 i2 (gap-ends g3 (hand_bytes h3 ++ t3) a3) in
    let three = next_hand-complete (next_seat (next_seat first)) s2 g3 h3 t3 a3 i3 (gap-ends g4 (hand_bytes h4 ++ rest) a4) in
    let four = next_hand-complete (next_seat (next_seat (next_seat first))) s3 g4 h4 rest a4 i4 ends in
    rw (one, two, three, four) refl

-- ---- a value
-- the bytes of a value, one after another
pub value-right : (before : List ℕ) (letter : ℕ) (after h1 g2 h2 g3 h3 g4 h4 trail rest : List ℕ)
    → (before ++ letter ∷ codes ":" ++ after ++ h1 ++ g2 ++ h2 ++ g3 ++ h3 ++ g4 ++ h4 ++ trail) ++ rest
    ≡ before ++ (letter ∷ (58 ∷ (after ++ (h1 ++ (g2 ++ (h2 ++ (g3 ++ (h3 ++ (g4 ++ (h4 ++ (trail ++ rest)))))))))))
value-right before letter after h1 g2 h2 g3 h3 g4 h4 trail rest = simp append_assoc

-- the text is a value, and what is left; the value is noted
record ValueRead (text : List ℕ) (read : HandsSoFar × List ℕ) : Type 0 where
  value : Value
  front : List ℕ
  is : IsValue front value
  spelled : text ≡ front ++ read.1
  noted : read.0 ≡ seen_of value

-- the same, of what is equal
ValueRead-same : (text : List ℕ) (read new : HandsSoFar × List ℕ) → read ≡ new → ValueRead text read → ValueRead text new
ValueRead-same text read new same is = subst (λ (r : HandsSoFar × List ℕ). ValueRead text r) same is

-- the parts of a value, put together
value-parts : (before : List ℕ) (letter : ℕ) (after h1 g2 h2 g3 h3 g4 h4 trail text t0 t1 t2 t3 t4 rest : List ℕ) → text ≡ before ++ t0 → t0 ≡ letter ∷ t1 → t1 ≡ 58 ∷ t2 → t2 ≡ after ++ t3
    → t3 ≡ h1 ++ (g2 ++ (h2 ++ (g3 ++ (h3 ++ (g4 ++ (h4 ++ t4)))))) → t4 ≡ trail ++ rest
    → text ≡ (before ++ letter ∷ codes ":" ++ after ++ h1 ++ g2 ++ h2 ++ g3 ++ h3 ++ g4 ++ h4 ++ trail) ++ rest
value-parts before letter after h1 g2 h2 g3 h3 g4 h4 trail text t0 t1 t2 t3 t4 rest e0 e1 e2 e3 e4 e5 =
    rw (e0, e1, e2, e3, e4, e5) refl ∙ sym (value-right before letter after h1 g2 h2 g3 h3 g4 h4 trail rest)

-- such parts are a value
value-made : (first : Seat) (letter : ℕ) (before after trail text t0 t1 t2 t3 rest : List ℕ) (read : HandsSoFar × List ℕ) → to_ascii_uppercase letter ≡ seat_letter first → AreBlanks before → AreBlanks after → AreBlanks trail
    → HandsRead first t3 read → text ≡ before ++ t0 → t0 ≡ letter ∷ t1 → t1 ≡ 58 ∷ t2 → t2 ≡ after ++ t3 → read.1 ≡ trail ++ rest → ValueRead text (read.0, rest)
value-made first letter before after trail text t0 t1 t2 t3 rest read seat are_before are_after are_trail hands e0 e1 e2 e3 e5 =
    let h1 = hand_bytes hands.hand1 in
    let h2 = hand_bytes hands.hand2 in
    let h3 = hand_bytes hands.hand3 in
    let h4 = hand_bytes hands.hand4 in
    record {
      value = record { first = first; hand1 = hands.hand1; hand2 = hands.hand2; hand3 = hands.hand3; hand4 = hands.hand4 };
      front = before ++ letter ∷ codes ":" ++ after ++ h1 ++ hands.gap2 ++ h2 ++ hands.gap3 ++ h3 ++ hands.gap4 ++ h4 ++ trail;
      is = record {
        letter = letter;
        before = before;
        after = after;
        gap2 = hands.gap2;
        gap3 = hands.gap3;
        gap4 = hands.gap4;
        trail = trail;
        form = refl;
        seat = seat;
        hands = hands.are;
        blanks = (are_before, are_after, are_trail);
        gaps = hands.gaps;
      };
      spelled = value-parts before letter after h1 hands.gap2 h2 hands.gap3 h3 hands.gap4 h4 trail text t0 t1 t2 t3 read.1 rest e0 e1 e2 e3 hands.spelled e5;
      noted = hands.noted;
    }

-- what is read of a value is a value, and it is noted
value-sound : (text : List ℕ) (read : HandsSoFar × List ℕ) → value_at text ≡ Some read → ValueRead text read
unfolding value_at
value-sound text read h =
    let b1 = bind-some (seat_at (after_blanks text)) (λ first. byte_at 58 first.1 >>= (λ rest. hands_at first.0 (after_blanks rest) >>= (λ hands. Some (hands.0, after_blanks hands.1)))) read h in
    let b2 = bind-some (byte_at 58 b1.0.1) (λ rest. hands_at b1.0.0 (after_blanks rest) >>= (λ hands. Some (hands.0, after_blanks hands.1))) read b1.2 in
    let b3 = bind-some (hands_at b1.0.0 (after_blanks b2.0)) (λ hands. Some (hands.0, after_blanks hands.1)) read b2.2 in
    let before = blanks-sound text in
    let seat = seat-sound (after_blanks text) b1.0 b1.1 in
    let after = blanks-sound b2.0 in
    let hands = hands-sound b1.0.0 (after_blanks b2.0) b3.0 b3.1 in
    let trail = blanks-sound b3.0.1 in
    let same : (b3.0.0, after_blanks b3.0.1) ≡ read = (let e = b3.2 in cc) in
    ValueRead-same text (b3.0.0, after_blanks b3.0.1) read same (
    value-made b1.0.0 seat.letter before.blanks after.blanks trail.blanks text (after_blanks text) b1.0.1 b2.0 (after_blanks b2.0) (after_blanks b3.0.1) b3.0
    seat.is before.are after.are trail.are hands before.spelled seat.spelled (byte_at-tells 58 b1.0.1 b2.0 b2.1) after.spelled trail.spelled)

-- a value is read, where neither a letter nor a blank follows it, and noted
value-complete : (front : List ℕ) (value : Value) (rest : List ℕ) → IsValue front value → Ends is_letter rest → Ends is_blank rest → value_at (front ++ rest) ≡ Some (seen_of value, rest)
unfolding value_at
value-complete front value rest is ends solid =
    let t4 : List ℕ = is.trail ++ rest in
    let t3 : List ℕ = hand_bytes value.hand1 ++ (is.gap2 ++ (hand_bytes value.hand2 ++ (is.gap3 ++ (hand_bytes value.hand3 ++ (is.gap4 ++ (hand_bytes value.hand4 ++ t4)))))) in
    let t2 : List ℕ = is.after ++ t3 in
    let right : front ++ rest ≡ is.before ++ (is.letter ∷ (58 ∷ t2)) =
    ap (λ (t : List ℕ). t ++ rest) is.form
    ∙ value-right is.before is.letter is.after (hand_bytes value.hand1) is.gap2 (hand_bytes value.hand2) is.gap3 (hand_bytes value.hand3) is.gap4 (hand_bytes value.hand4) is.trail rest in
    let before = blanks-complete is.before (is.letter ∷ (58 ∷ t2)) is.blanks.0 (seat-solid is.letter value.first is.seat) in
    let seat = seat-complete is.letter value.first (58 ∷ t2) is.seat in
    let colon = byte_at-takes 58 t2 in
    let after = blanks-complete is.after t3 is.blanks.1 (hand-solid value.hand1 (is.gap2 ++ (hand_bytes value.hand2 ++ (is.gap3 ++ (hand_bytes value.hand3 ++ (is.gap4 ++ (hand_bytes value.hand4 ++ t4)))))) is.hands.0) in
    let hands = hands-complete value.first value.hand1 value.hand2 value.hand3 value.hand4 is.gap2 is.gap3 is.gap4 t4 is.hands.0 is.hands.1 is.hands.2 is.hands.3 is.gaps.0 is.gaps.1 is.gaps.2
    (Ends-blanks is.trail rest is.blanks.2 ends) in
    let trail = blanks-complete is.trail rest is.blanks.2 solid in
    ap value_at right ∙ rw (before, seat, colon, after, hands, trail) refl

-- ---- whole texts
-- what is read has the form and is noted, and what has the form is read
pub record Reads (Form : Value → Type 0) (read : Option HandsSoFar) : Type 0 where
  pub sound : (seen : HandsSoFar) → read ≡ Some seen → (value : Value) × Form value × (seen ≡ seen_of value)
  pub complete : (value : Value) → Form value → read ≡ Some (seen_of value)

-- the end is reached only where nothing is left
only-at_end : (text : List ℕ) (seen new : HandsSoFar) → cond (at_end text) (Some seen) None ≡ Some new → (text ≡ []) × (seen ≡ new)
unfolding at_end
only-at_end text seen new h =
    let c = cond_some (length text == 0) seen new h in
    (nil_from_length text (eqb-true (length text) 0 c.0), c.1)

-- a text is its front where nothing is left
nothing-left : (text front rest : List ℕ) → text ≡ front ++ rest → rest ≡ [] → text ≡ front
nothing-left text front rest spelled none = spelled ∙ ap (λ (t : List ℕ). front ++ t) none ∙ append-nil front

-- a value and nothing else is read so
pub Reads-value : (text : List ℕ) → Reads (IsValue text) (value_of text)
unfolding value_of at_end
Reads-value text =
    record {
      sound = λ seen h.
          let b = bind-some (value_at text) (λ read. cond (at_end read.1) (Some read.0) None) seen h in
          let end = only-at_end b.0.1 b.0.0 seen b.2 in
          let v = value-sound text b.0 b.1 in
          let whole = nothing-left text v.front b.0.1 v.spelled end.0 in
          (v.value, subst (λ (t : List ℕ). IsValue t v.value) (sym whole) v.is, sym end.1 ∙ v.noted);
      complete = λ value is.
          let read : value_at text ≡ Some (seen_of value, []) = ap value_at (sym (append-nil text)) ∙ value-complete text value [] is tt tt in
          rw read refl;
    }

-- ---- a tag
-- the text is a value in quotes, and what is left; the value is noted
record QuotedRead (text : List ℕ) (read : HandsSoFar × List ℕ) : Type 0 where
  value : Value
  inner : List ℕ
  is : IsValue inner value
  spelled : text ≡ 34 ∷ (inner ++ (34 ∷ read.1))
  noted : read.0 ≡ seen_of value

-- the same, of what is equal
QuotedRead-same : (text : List ℕ) (read new : HandsSoFar × List ℕ) → read ≡ new → QuotedRead text read → QuotedRead text new
QuotedRead-same text read new same is = subst (λ (r : HandsSoFar × List ℕ). QuotedRead text r) same is

-- the parts of a value in quotes, put together
quoted-parts : (front text t0 t1 rest : List ℕ) → text ≡ 34 ∷ t0 → t0 ≡ front ++ t1 → t1 ≡ 34 ∷ rest → text ≡ 34 ∷ (front ++ (34 ∷ rest))
quoted-parts front text t0 t1 rest e0 e1 e2 = rw (e0, e1, e2) refl

-- what is read is a value in quotes
quoted-sound : (text : List ℕ) (read : HandsSoFar × List ℕ) → quoted_at text ≡ Some read → QuotedRead text read
unfolding quoted_at
quoted-sound text read h =
    let b1 = bind-some (byte_at 34 text) (λ inner. value_at inner >>= (λ value. byte_at 34 value.1 >>= (λ rest. Some (value.0, rest)))) read h in
    let b2 = bind-some (value_at b1.0) (λ value. byte_at 34 value.1 >>= (λ rest. Some (value.0, rest))) read b1.2 in
    let b3 = bind-some (byte_at 34 b2.0.1) (λ rest. Some (b2.0.0, rest)) read b2.2 in
    let v = value-sound b1.0 b2.0 b2.1 in
    let same : (b2.0.0, b3.0) ≡ read = (let e = b3.2 in cc) in
    QuotedRead-same text (b2.0.0, b3.0) read same (record {
      value = v.value;
      inner = v.front;
      is = v.is;
      spelled = quoted-parts v.front text b1.0 b2.0.1 b3.0 (byte_at-tells 34 text b1.0 b1.1) v.spelled (byte_at-tells 34 b2.0.1 b3.0 b3.1);
      noted = v.noted;
    })

-- a value in quotes is read
quoted-complete : (inner : List ℕ) (value : Value) (rest : List ℕ) → IsValue inner value → quoted_at (34 ∷ (inner ++ (34 ∷ rest))) ≡ Some (seen_of value, rest)
unfolding quoted_at
quoted-complete inner value rest is =
    rw (byte_at-takes 34 (inner ++ (34 ∷ rest)), value-complete inner value (34 ∷ rest) is quote-none refl, byte_at-takes 34 rest) refl

-- the bytes of a tag, one after another
tag-right : (before before_name name after_name inner after_value after : List ℕ)
    → (before ++ codes "[" ++ before_name ++ name ++ after_name ++ codes "\"" ++ inner ++ codes "\"" ++ after_value ++ codes "]" ++ after)
    ≡ before ++ (91 ∷ (before_name ++ (name ++ (after_name ++ (34 ∷ (inner ++ (34 ∷ (after_value ++ (93 ∷ after)))))))))
tag-right before before_name name after_name inner after_value after = simp append_assoc

-- the parts of a tag, put together
tag-parts : (before before_name name after_name inner after_value after text t0 t1 t2 t3 t4 t5 t6 t7 rest : List ℕ) → text ≡ before ++ t0 → t0 ≡ 91 ∷ t1 → t1 ≡ before_name ++ t2 → t2 ≡ name ++ t3
    → t3 ≡ after_name ++ t4 → t4 ≡ 34 ∷ (inner ++ (34 ∷ t5)) → t5 ≡ after_value ++ t6 → t6 ≡ 93 ∷ t7 → t7 ≡ after ++ rest → rest ≡ []
    → text ≡ before ++ codes "[" ++ before_name ++ name ++ after_name ++ codes "\"" ++ inner ++ codes "\"" ++ after_value ++ codes "]" ++ after
tag-parts before before_name name after_name inner after_value after text t0 t1 t2 t3 t4 t5 t6 t7 rest e0 e1 e2 e3 e4 e5 e6 e7 e8 e9 =
    let last : t7 ≡ after = e8 ∙ ap (λ (t : List ℕ). after ++ t) e9 ∙ append-nil after in
    rw (e0, e1, e2, e3, e4, e5, e6, e7, last) refl ∙ sym (tag-right before before_name name after_name inner after_value after)

-- two that are equal to one are equal
seen-moved : (a b c : HandsSoFar) → a ≡ b → a ≡ c → b ≡ c
seen-moved a b c same is = sym same ∙ is

-- what is read of a tag is a tag, and its value is noted
tag-sound : (text : List ℕ) (seen : HandsSoFar) → tag_of text ≡ Some seen → (value : Value) × IsTag text value × (seen ≡ seen_of value)
unfolding tag_of
tag-sound text seen h =
    let last = λ (value : HandsSoFar × List ℕ) (rest : List ℕ). cond (at_end (after_blanks rest)) (Some value.0) None in
    let b1 = bind-some (byte_at 91 (after_blanks text)) (λ bracket. name_at (after_blanks bracket) >>= (λ name. quoted_at (after_blanks name) >>= (λ value. byte_at 93 (after_blanks value.1) >>= last value))) seen h in
    let b2 = bind-some (name_at (after_blanks b1.0)) (λ name. quoted_at (after_blanks name) >>= (λ value. byte_at 93 (after_blanks value.1) >>= last value)) seen b1.2 in
    let b3 = bind-some (quoted_at (after_blanks b2.0)) (λ value. byte_at 93 (after_blanks value.1) >>= last value) seen b2.2 in
    let b4 = bind-some (byte_at 93 (after_blanks b3.0.1)) (last b3.0) seen b3.2 in
    let end = only-at_end (after_blanks b4.0) b3.0.0 seen b4.2 in
    let before = blanks-sound text in
    let before_name = blanks-sound b1.0 in
    let name = name-sound (after_blanks b1.0) b2.0 b2.1 in
    let after_name = blanks-sound b2.0 in
    let v = quoted-sound (after_blanks b2.0) b3.0 b3.1 in
    let after_value = blanks-sound b3.0.1 in
    let after = blanks-sound b4.0 in (
      v.value,
      record {
        name = name.name;
        inner = v.inner;
        before = before.blanks;
        before_name = before_name.blanks;
        after_name = after_name.blanks;
        after_value = after_value.blanks;
        after = after.blanks;
        form = tag-parts before.blanks before_name.blanks name.name after_name.blanks v.inner after_value.blanks after.blanks
            text (after_blanks text) b1.0 (after_blanks b1.0) b2.0 (after_blanks b2.0) b3.0.1 (after_blanks b3.0.1) b4.0 (after_blanks b4.0)
            before.spelled (byte_at-tells 91 (after_blanks text) b1.0 b1.1) before_name.spelled name.spelled after_name.spelled v.spelled after_value.spelled (byte_at-tells 93 (after_blanks b3.0.1) b4.0 b4.1) after.spelled end.0;
        named = name.named;
        valued = v.is;
        blanks = (before.are, before_name.are, after_name.are, after_value.are, after.are);
      },
      seen-moved b3.0.0 seen (seen_of v.value) end.1 v.noted,
    )

-- a tag is read, and its value noted
tag-complete : (text : List ℕ) (value : Value) → IsTag text value → tag_of text ≡ Some (seen_of value)
unfolding tag_of at_end
tag-complete text value is =
    let t7 : List ℕ = is.after in
    let t5 : List ℕ = is.after_value ++ (93 ∷ t7) in
    let t4 : List ℕ = 34 ∷ (is.inner ++ (34 ∷ t5)) in
    let t3 : List ℕ = is.after_name ++ t4 in
    let t2 : List ℕ = is.name ++ t3 in
    let t1 : List ℕ = is.before_name ++ t2 in
    let right = is.form ∙ tag-right is.before is.before_name is.name is.after_name is.inner is.after_value is.after in
    let before = blanks-complete is.before (91 ∷ t1) is.blanks.0 refl in
    let bracket = byte_at-takes 91 t1 in
    let before_name = blanks-complete is.before_name t2 is.blanks.1 (name-solid is.name t3 is.named) in
    let name = name-complete is.name t3 is.named in
    let after_name = blanks-complete is.after_name t4 is.blanks.2 refl in
    let value_read = quoted-complete is.inner value t5 is.valued in
    let after_value = blanks-complete is.after_value (93 ∷ t7) is.blanks.3 refl in
    let unbracket = byte_at-takes 93 t7 in
    let after : after_blanks t7 ≡ [] = ap after_blanks (sym (append-nil t7)) ∙ blanks-complete t7 [] is.blanks.4 tt in
    ap tag_of right ∙ rw (before, bracket, before_name, name, after_name, value_read, after_value, unbracket, after) refl

-- a tag and nothing else is read so
pub Reads-tag : (text : List ℕ) → Reads (IsTag text) (tag_of text)
Reads-tag text = record { sound = tag-sound text; complete = tag-complete text }
