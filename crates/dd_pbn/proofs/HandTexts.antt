-- suits and hands: what is read stands at the front and its cards are noted, and what stands at the front is read
use Rattle.std.proofs.Common.{◌≡◌, ℕ, true, false, refl, sym, ap, ◌∙◌, subst, List, [], ◌∷◌, ◌++◌, append_assoc, Option, Some, None, inl, inr}
use Rattle.std.specs.Prelude.{is_some}
use Rattle.std.specs.List.{list_all}
use Rattle.std.proofs.lemmas.Bool.{and_parts}
use Rattle.std.proofs.lemmas.Bool.Decides.{eqb_tells}
use Rattle.dd_cards.specs.declared.seat.Seat.{Seat}
use Rattle.dd_cards.specs.declared.suit.Suit.{Suit}
use Rattle.dd_cards.specs.declared.suit.Suit.TheVariants.{Spades, Hearts, Diamonds, Clubs}
use Rattle.dd_cards.specs.PlayingCard.{PlayingCard}
use Rattle.dd_cards.specs.Cards.{card_of}
use Rattle.dd_pbn.specs.declared.hands_so_far.HandsSoFar.{HandsSoFar}
use Rattle.dd_pbn.specs.Letters.{rank_of, is_blank}
use Rattle.dd_pbn.specs.Values.{HandText, suits, dash, IsSuit, IsHand, IsGap, hand_bytes}
use Rattle.dd_pbn.specs.Deals.{cards_of_suit}
use Rattle.dd_pbn.specs.Reading.{◌>>=◌, note, leave_out, byte_at, suit_at, next_suit, hand_at, next_hand, gap_at}
use Rattle.dd_pbn.proofs.Bytes.{is_letter, Ends, point-none, dash-none, letter-solid}
use Rattle.dd_pbn.proofs.Blanks.{bind-some, byte_at-tells, byte_at-takes, gap-sound, gap-complete}

-- the cards noted one after another
abbrev pub note_all : Seat → List PlayingCard → HandsSoFar → HandsSoFar
note_all seat [] seen = seen
note_all seat (card ∷ cards) seen = note_all seat cards (note seat card seen)

-- a hand noted: its suits, or that it is left out
abbrev pub note_hand : Seat → HandText → HandsSoFar → HandsSoFar
note_hand seat (suits spades hearts diamonds clubs) seen =
    note_all seat (cards_of_suit Clubs clubs) (note_all seat (cards_of_suit Diamonds diamonds) (note_all seat (cards_of_suit Hearts hearts) (note_all seat (cards_of_suit Spades spades) seen)))
note_hand seat dash seen = leave_out seen

-- ---- a suit
-- the text is letters, and what is left; their cards are noted
pub record SuitRead (seat : Seat) (suit : Suit) (seen : HandsSoFar) (text : List ℕ) (read : HandsSoFar × List ℕ) : Type 0 where
  pub letters : List ℕ
  pub is : IsSuit letters
  pub spelled : text ≡ letters ++ read.1
  pub noted : read.0 ≡ note_all seat (cards_of_suit suit letters) seen

-- what is read of a suit is letters, and their cards are noted
pub suit-sound : (seat : Seat) (suit : Suit) (seen : HandsSoFar) (text : List ℕ) → SuitRead seat suit seen text (suit_at seat suit seen text)
unfolding suit_at
suit-sound seat suit seen [] = record { letters = []; is = refl; spelled = refl; noted = refl }
suit-sound seat suit seen (byte ∷ text) = go (λ s. suit-sound seat suit s text) (rank_of byte) refl
  where
    go : ((s : HandsSoFar) → SuitRead seat suit s text (suit_at seat suit s text)) → (o : Option ℕ) → rank_of byte ≡ o
        → SuitRead seat suit seen (byte ∷ text) (elim o [ None ↦ (seen, byte ∷ text) | Some rank ↦ suit_at seat suit (note seat (card_of suit rank) seen) text ])
    go later None none = record { letters = []; is = refl; spelled = refl; noted = refl }
    go later (Some rank) some =
        let more = later (note seat (card_of suit rank) seen) in
        record {
          letters = byte ∷ more.letters;
          is = rw some more.is;
          spelled = ap (λ (t : List ℕ). byte ∷ t) more.spelled;
          noted = rw some more.noted;
        }

-- letters are read, up to what is no letter, and their cards noted
pub suit-complete : (seat : Seat) (suit : Suit) (seen : HandsSoFar) (letters rest : List ℕ) → IsSuit letters → Ends is_letter rest
    → suit_at seat suit seen (letters ++ rest) ≡ (note_all seat (cards_of_suit suit letters) seen, rest)
unfolding suit_at
suit-complete seat suit seen [] [] is ends = refl
suit-complete seat suit seen [] (byte ∷ rest) is ends = go (rank_of byte) refl ends
  where
    go : (o : Option ℕ) → rank_of byte ≡ o → is_some o ≡ false → suit_at seat suit seen (byte ∷ rest) ≡ (seen, byte ∷ rest)
    go None none ends = rw (none, suit_at) refl
    go (Some rank) some ends = absurd (cc)
suit-complete seat suit seen (byte ∷ letters) rest is ends =
    let parts = and_parts (is_letter byte) (list_all is_letter letters) is in
    go (λ s. suit-complete seat suit s letters rest parts.1 ends) (rank_of byte) refl parts.0
  where
    go : ((s : HandsSoFar) → suit_at seat suit s (letters ++ rest) ≡ (note_all seat (cards_of_suit suit letters) s, rest)) → (o : Option ℕ) → rank_of byte ≡ o → is_some o ≡ true
        → suit_at seat suit seen (byte ∷ (letters ++ rest)) ≡ (note_all seat (cards_of_suit suit (byte ∷ letters)) seen, rest)
    go later None none some_letter = absurd (cc)
    go later (Some rank) some some_letter = rw (some, suit_at) (later (note seat (card_of suit rank) seen))

-- a point, and a suit
pub record NextSuit (seat : Seat) (suit : Suit) (read new : HandsSoFar × List ℕ) : Type 0 where
  pub letters : List ℕ
  pub is : IsSuit letters
  pub spelled : read.1 ≡ 46 ∷ (letters ++ new.1)
  pub noted : new.0 ≡ note_all seat (cards_of_suit suit letters) read.0

-- what is read is a point and letters
next_suit-sound : (seat : Seat) (suit : Suit) (read new : HandsSoFar × List ℕ) → next_suit seat suit read ≡ Some new → NextSuit seat suit read new
unfolding next_suit
next_suit-sound seat suit read new h =
    let b = bind-some (byte_at 46 read.1) (λ text. Some (suit_at seat suit read.0 text)) new h in
    let same : suit_at seat suit read.0 b.0 ≡ new = cc in
    subst (λ (n : HandsSoFar × List ℕ). NextSuit seat suit read n) same (let s = suit-sound seat suit read.0 b.0 in
    record { letters = s.letters; is = s.is; spelled = byte_at-tells 46 read.1 b.0 b.1 ∙ ap (λ (t : List ℕ). 46 ∷ t) s.spelled; noted = s.noted })

-- a point and letters are read
next_suit-complete : (seat : Seat) (suit : Suit) (seen : HandsSoFar) (letters rest : List ℕ) → IsSuit letters → Ends is_letter rest
    → next_suit seat suit (seen, 46 ∷ (letters ++ rest)) ≡ Some (note_all seat (cards_of_suit suit letters) seen, rest)
unfolding next_suit
next_suit-complete seat suit seen letters rest is ends = rw (byte_at-takes 46 (letters ++ rest), suit-complete seat suit seen letters rest is ends) refl

-- ---- a hand
-- the text is a hand, and what is left; the hand is noted
pub record HandRead (seat : Seat) (seen : HandsSoFar) (text : List ℕ) (read : HandsSoFar × List ℕ) : Type 0 where
  pub hand : HandText
  pub is : IsHand hand
  pub spelled : text ≡ hand_bytes hand ++ read.1
  pub noted : read.0 ≡ note_hand seat hand seen

-- the bytes of four suits, one after another
pub hand_bytes-right : (a b c d rest : List ℕ) → hand_bytes (suits a b c d) ++ rest ≡ a ++ (46 ∷ (b ++ (46 ∷ (c ++ (46 ∷ (d ++ rest))))))
hand_bytes-right a b c d rest = simp append_assoc

-- the parts of four suits, put together
four : (a b c d text t1 t2 t3 rest : List ℕ) → text ≡ a ++ t1 → t1 ≡ 46 ∷ (b ++ t2) → t2 ≡ 46 ∷ (c ++ t3) → t3 ≡ 46 ∷ (d ++ rest) → text ≡ hand_bytes (suits a b c d) ++ rest
four a b c d text t1 t2 t3 rest e0 e1 e2 e3 = e0 ∙ rw (e1, e2, e3) refl ∙ sym (hand_bytes-right a b c d rest)

-- what is noted suit by suit is the hand noted
suits-noted : (seat : Seat) (a b c d : List ℕ) (seen s0 s1 s2 s3 : HandsSoFar) → s0 ≡ note_all seat (cards_of_suit Spades a) seen → s1 ≡ note_all seat (cards_of_suit Hearts b) s0
    → s2 ≡ note_all seat (cards_of_suit Diamonds c) s1 → s3 ≡ note_all seat (cards_of_suit Clubs d) s2 → s3 ≡ note_hand seat (suits a b c d) seen
suits-noted seat a b c d seen s0 s1 s2 s3 e0 e1 e2 e3 = rw (e3, e2, e1, e0) refl

-- what is read of a hand is a hand, and it is noted
pub hand-sound : (seat : Seat) (seen : HandsSoFar) (text : List ℕ) (read : HandsSoFar × List ℕ) → hand_at seat seen text ≡ Some read → HandRead seat seen text read
unfolding hand_at
hand-sound seat seen text read h = go (byte_at 45 text) refl h
  where
    in_suits : (next_suit seat Hearts (suit_at seat Spades seen text) >>= (λ hearts. next_suit seat Diamonds hearts >>= next_suit seat Clubs)) ≡ Some read → HandRead seat seen text read
    in_suits h =
        let s0 = suit_at seat Spades seen text in
        let b1 = bind-some (next_suit seat Hearts s0) (λ hearts. next_suit seat Diamonds hearts >>= next_suit seat Clubs) read h in
        let b2 = bind-some (next_suit seat Diamonds b1.0) (next_suit seat Clubs) read b1.2 in
        let spades = suit-sound seat Spades seen text in
        let hearts = next_suit-sound seat Hearts s0 b1.0 b1.1 in
        let diamonds = next_suit-sound seat Diamonds b1.0 b2.0 b2.1 in
        let clubs = next_suit-sound seat Clubs b2.0 read b2.2 in
        record {
          hand = suits spades.letters hearts.letters diamonds.letters clubs.letters;
          is = (spades.is, hearts.is, diamonds.is, clubs.is);
          spelled = four spades.letters hearts.letters diamonds.letters clubs.letters text s0.1 b1.0.1 b2.0.1 read.1 spades.spelled hearts.spelled diamonds.spelled clubs.spelled;
          noted = suits-noted seat spades.letters hearts.letters diamonds.letters clubs.letters seen s0.0 b1.0.0 b2.0.0 read.0 spades.noted hearts.noted diamonds.noted clubs.noted;
        }

    go : (o : Option (List ℕ)) → byte_at 45 text ≡ o
        → elim o [ Some rest ↦ Some (leave_out seen, rest) | None ↦ (next_suit seat Hearts (suit_at seat Spades seen text) >>= (λ hearts. next_suit seat Diamonds hearts >>= next_suit seat Clubs)) ] ≡ Some read
        → HandRead seat seen text read
    go (Some rest) dashed h =
        let same : (leave_out seen, rest) ≡ read = cc in
        subst (λ (r : HandsSoFar × List ℕ). HandRead seat seen text r) same (record { hand = dash; is = tt; spelled = byte_at-tells 45 text rest dashed; noted = refl })
    go None other h = in_suits h

-- four suits do not begin with a dash
no_dash : (letters rest : List ℕ) → IsSuit letters → byte_at 45 (letters ++ (46 ∷ rest)) ≡ None
unfolding byte_at
no_dash [] rest is = refl
no_dash (byte ∷ letters) rest is =
    let letter : is_letter byte ≡ true = (and_parts (is_letter byte) (list_all is_letter letters) is).0 in
    elim (eqb_tells byte 45) [
      | inl same ↦ absurd (let e : is_letter byte ≡ false = ap is_letter same.1 ∙ dash-none in cc)
      | inr other ↦ rw (other.0, byte_at) refl
    ]

-- a hand is read, where no letter follows it, and noted
pub hand-complete : (seat : Seat) (seen : HandsSoFar) (hand : HandText) (rest : List ℕ) → IsHand hand → Ends is_letter rest → hand_at seat seen (hand_bytes hand ++ rest) ≡ Some (note_hand seat hand seen, rest)
unfolding hand_at
hand-complete seat seen dash rest is ends = rw (byte_at-takes 45 rest, hand_at) refl
hand-complete seat seen (suits a b c d) rest is ends =
    let t3 : List ℕ = 46 ∷ (d ++ rest) in
    let t2 : List ℕ = 46 ∷ (c ++ t3) in
    let t1 : List ℕ = 46 ∷ (b ++ t2) in
    let s0 = note_all seat (cards_of_suit Spades a) seen in
    let s1 = note_all seat (cards_of_suit Hearts b) s0 in
    let s2 = note_all seat (cards_of_suit Diamonds c) s1 in
    let spades = suit-complete seat Spades seen a t1 is.0 point-none in
    let hearts = next_suit-complete seat Hearts s0 b t2 is.1 point-none in
    let diamonds = next_suit-complete seat Diamonds s1 c t3 is.2 point-none in
    let clubs = next_suit-complete seat Clubs s2 d rest is.3 ends in
    let dashless = no_dash a (b ++ t2) is.0 in
    ap (hand_at seat seen) (hand_bytes-right a b c d rest) ∙ rw (dashless, hand_at) (rw (spades, hearts, diamonds, clubs) refl)

-- ---- what a hand begins with
-- a hand begins with no blank
pub hand-solid : (hand : HandText) (rest : List ℕ) → IsHand hand → Ends is_blank (hand_bytes hand ++ rest)
hand-solid dash rest is = refl
hand-solid (suits [] b c d) rest is = subst (Ends is_blank) (sym (hand_bytes-right [] b c d rest)) refl
hand-solid (suits (byte ∷ a) b c d) rest is = subst (Ends is_blank) (sym (hand_bytes-right (byte ∷ a) b c d rest)) (letter-solid byte (and_parts (is_letter byte) (list_all is_letter a) is.0).0)

-- ---- a gap, and a hand
pub record NextHand (seat : Seat) (read new : HandsSoFar × List ℕ) : Type 0 where
  pub gap : List ℕ
  pub apart : IsGap gap
  pub hand : HandText
  pub is : IsHand hand
  pub spelled : read.1 ≡ gap ++ (hand_bytes hand ++ new.1)
  pub noted : new.0 ≡ note_hand seat hand read.0

-- what is read is a gap and a hand
pub next_hand-sound : (seat : Seat) (read new : HandsSoFar × List ℕ) → next_hand seat read ≡ Some new → NextHand seat read new
unfolding next_hand
next_hand-sound seat read new h =
    let b = bind-some (gap_at read.1) (hand_at seat read.0) new h in
    let g = gap-sound read.1 b.0 b.1 in
    let s = hand-sound seat read.0 b.0 new b.2 in
    record { gap = g.gap; apart = g.is; hand = s.hand; is = s.is; spelled = g.spelled ∙ ap (λ (t : List ℕ). g.gap ++ t) s.spelled; noted = s.noted }

-- a gap and a hand are read
pub next_hand-complete : (seat : Seat) (seen : HandsSoFar) (gap : List ℕ) (hand : HandText) (rest : List ℕ) → IsGap gap → IsHand hand → Ends is_letter rest
    → next_hand seat (seen, gap ++ (hand_bytes hand ++ rest)) ≡ Some (note_hand seat hand seen, rest)
unfolding next_hand
next_hand-complete seat seen gap hand rest apart is ends =
    rw (gap-complete gap (hand_bytes hand ++ rest) apart (hand-solid hand rest is)) (hand-complete seat seen hand rest is ends)
