-- what a play does to counts, and bounds that hold whoever is to play
use Rattle.std.proofs.Common.{◌≡◌, ℕ, ◌+◌, ◌*◌, ◌<◌, ◌≤◌, Bool, true, false, refl, ap, ◌∙◌, subst, arith, List, [], ◌∷◌, ◌++◌, length, length-append, get_or, inl, inr, ◌⊎◌}
use Rattle.std.proofs.Math.ListN.{get_or-append}
use Rattle.std.proofs.Math.Seq.{get_or-append_seam}
use Rattle.std.proofs.lemmas.Bool.{cases_lt}
use Rattle.dd_cards.specs.PlayingCard.{PlayingCard}
use Rattle.dd_cards.specs.Cards.{has_card, without}
use Rattle.dd_cards.specs.Hands.{times}
use Rattle.dd_cards.specs.Sides.{is_side}
use Rattle.dd_cards.specs.declared.side.Side.{Side}
use Rattle.dd_play.specs.Board.{Board, IsBoard, cards_at, mover, tricks_left}
use Rattle.dd_play.specs.Play.{legal, after}
use Rattle.dd_play.specs.Simulations.{IsLegal}
use Rattle.dd_play.specs.Won.{won}
use Rattle.dd_play.proofs.CallerLemmas.{can, count, count-cons, count-without, flag_of, hand-own, has-first, least, no-legal, once-in, own-card, won_with}
use Rattle.dd_cards.proofs.CallerLemmas.{times-has}

-- what each legal card leaves the side, it takes, whoever is to play
pub whoever : (s : Side) (p : Board) (b : ℕ) → IsBoard p → 1 ≤ tricks_left p → ((c : PlayingCard) → IsLegal p c → b ≤ won_with s p c) → b ≤ won s p
whoever s p b valid some each = go (is_side s (mover p)) refl (legal p) refl
  where
    go : (a : Bool) → is_side s (mover p) ≡ a → (cards : List PlayingCard) → legal p ≡ cards → b ≤ won s p
    go a e [] l = absurd (let z : tricks_left p ≡ 0 = no-legal p l in omega (arith, z, some))
    go true e (x ∷ cards) l =
        let has : IsLegal p x = ap (λ l. has_card l x) l ∙ has-first x cards in
        let reach : won_with s p x ≤ won s p = can s p x valid e has in
        let enough : b ≤ won_with s p x = each x has in
        omega (arith, reach, enough)
    go false e (x ∷ cards) l = least s p b valid e x (ap (λ l. has_card l x) l ∙ has-first x cards) each

-- the mover's hand has one card fewer of those that pass, if the card played passes
pub count-own : (test : PlayingCard → Bool) (p : Board) (c : PlayingCard) → IsBoard p → IsLegal p c → count test (cards_at (after p c) (mover p)) + flag_of (test c) ≡ count test (cards_at p (mover p))
count-own test p c valid has =
    let hand : count test (cards_at (after p c) (mover p)) ≡ count test (without (cards_at p (mover p)) c) = ap (count test) (hand-own p c valid) in
    let taken : count test (without (cards_at p (mover p)) c) + times (cards_at p (mover p)) c * flag_of (test c) ≡ count test (cards_at p (mover p)) = count-without test (cards_at p (mover p)) c in
    let most : times (cards_at p (mover p)) c ≤ 1 = once-in p valid (mover p) c in
    let some : 1 ≤ times (cards_at p (mover p)) c = times-has (cards_at p (mover p)) c (own-card p c has) in
    let one : times (cards_at p (mover p)) c ≡ 1 = omega (arith, most, some) in
    let taken1 : count test (without (cards_at p (mover p)) c) + 1 * flag_of (test c) ≡ count test (cards_at p (mover p)) = subst (λ (m : ℕ). count test (without (cards_at p (mover p)) c) + m * flag_of (test c) ≡ count test (cards_at p (mover p))) one taken in
    omega (arith, hand, taken1)

-- a card put last is counted where it passes
pub count-push : (test : PlayingCard → Bool) (cards : List PlayingCard) (c : PlayingCard) → count test (cards ++ c ∷ []) ≡ count test cards + flag_of (test c)
count-push test [] c = count-cons test c [] ∙ omega arith
count-push test (x ∷ cards) c =
    let one = count-cons test x cards in
    let two = count-cons test x (cards ++ c ∷ []) in
    let ih = count-push test cards c in
    omega (arith, one, two, ih)

-- a place of a list with a last card is one of the list, or that of the last card
pub place-push : (cards : List PlayingCard) (c d : PlayingCard) (i : ℕ) → i < length (cards ++ c ∷ [])
    → ((i < length cards) × (get_or (cards ++ c ∷ []) i d ≡ get_or cards i d)) ⊎ ((i ≡ length cards) × (get_or (cards ++ c ∷ []) i d ≡ c))
place-push cards c d i h = elim (cases_lt i (length cards)) [
  | inl l ↦ inl (l, get_or-append cards (c ∷ []) d i l)
  | inr l ↦ (
      let long : length (cards ++ c ∷ []) ≡ length cards + 1 = length-append cards (c ∷ []) in
      let same : i ≡ length cards = omega (arith, long, h, l) in
      inr (same, ap (λ n. get_or (cards ++ c ∷ []) n d) same ∙ get_or-append_seam cards c [] d))
]
