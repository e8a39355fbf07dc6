-- four hands and the board that they make
use Rattle.std.proofs.Common.{◌≡◌, ℕ, zero, suc, ◌+◌, ◌<◌, ap, ◌∙◌, arith, List, ◌++◌, length}
use Rattle.std.specs.Prelude.{◌||◌, nat_lt, if◌then◌else◌}
use Rattle.std.proofs.lemmas.List.Folds.{list_any-append}
use Rattle.dd_cards.specs.declared.seat.Seat.TheVariants.{North, East, South, West}
use Rattle.dd_cards.specs.declared.strain.Strain.{Strain}
use Rattle.dd_cards.specs.PlayingCard.{PlayingCard}
use Rattle.dd_cards.specs.Cards.{has_card, same_card}
use Rattle.dd_cards.specs.Hands.{dealt, hand_of, AreHands}
use Rattle.dd_cards.specs.Seats.{seat_after}
use Rattle.dd_play.specs.Board.{Board, IsBoard, cards_at, times_in}
use Rattle.dd_play.proofs.CallerLemmas.{times_in-once}
use Rattle.dd_rank.specs.Depths.{all_cards}
use Rattle.dd_relative.specs.Relative.{led_by_north}
use Rattle.std.proofs.lemmas.Bool.{or_left, or_right, or_cases}

-- a card of all hands is in one of the four
pub held : (l s t f : List PlayingCard) (strain : Strain) (c : PlayingCard) → has_card (all_cards (led_by_north l s t f strain)) c ≡ (((has_card l c || has_card s c) || has_card t c) || has_card f c)
held l s t f strain c =
    let test = λ (d : PlayingCard). same_card d c in
    list_any-append test ((l ++ s) ++ t) f
    ∙ ap (λ b. b || has_card f c) (list_any-append test (l ++ s) t ∙ ap (λ b. b || has_card t c) (list_any-append test l s))

-- .. of any board
pub held-by : (p : Board) (c : PlayingCard) → has_card (all_cards p) c ≡ (((has_card (cards_at p North) c || has_card (cards_at p East) c) || has_card (cards_at p South) c) || has_card (cards_at p West) c)
held-by p c =
    let test = λ (d : PlayingCard). same_card d c in
    list_any-append test ((cards_at p North ++ cards_at p East) ++ cards_at p South) (cards_at p West)
    ∙ ap (λ b. b || has_card (cards_at p West) c) (list_any-append test (cards_at p North ++ cards_at p East) (cards_at p South)
    ∙ ap (λ b. b || has_card (cards_at p South) c) (list_any-append test (cards_at p North) (cards_at p East)))

-- four hands of one length that North leads from are a board
pub start-board : (l s t f : List PlayingCard) (strain : Strain) → AreHands (dealt l s t f) → length s ≡ length l → length t ≡ length l → length f ≡ length l → IsBoard (led_by_north l s t f strain)
start-board l s t f strain hands es et ef = record {
  sets = hands.sets;
  short = omega arith;
  real = λ c h. absurd (cc);
  once = λ c. (let o = times_in-once (dealt l s t f) c hands in omega (arith, o));
  even = even;
}
  where
    even : (k : ℕ) → k < 4 → length (hand_of (dealt l s t f) (seat_after North k)) + (if nat_lt k 0 then 1 else 0) ≡ length l
    even zero h = omega arith
    even (suc zero) h = omega (arith, es)
    even (suc (suc zero)) h = omega (arith, et)
    even (suc (suc (suc zero))) h = omega (arith, ef)
    even (suc (suc (suc (suc k)))) h = absurd (omega (arith, h))

-- .. and the other way
pub board-even : (l s t f : List PlayingCard) (strain : Strain) → IsBoard (led_by_north l s t f strain) → (length s ≡ length l) × (length t ≡ length l) × (length f ≡ length l)
board-even l s t f strain valid =
    let b : length s + 0 ≡ length l = valid.even 1 (omega arith) in
    let c : length t + 0 ≡ length l = valid.even 2 (omega arith) in
    let d : length f + 0 ≡ length l = valid.even 3 (omega arith) in
    (omega (arith, b), omega (arith, c), omega (arith, d))
