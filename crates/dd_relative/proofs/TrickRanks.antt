-- winning ranks before a trick, and after
use Rattle.std.proofs.Common.{◌≡◌, refl, ℕ, ◌≤◌, sym, ap, ◌∙◌, subst, List, [], ◌∷◌, length}
use Rattle.std.specs.Prelude.{take, slice_index_or}
use Rattle.dd_cards.specs.declared.strain.Strain.{Strain}
use Rattle.dd_cards.specs.PlayingCard.{PlayingCard}
use Rattle.dd_cards.specs.Cards.{with_card}
use Rattle.dd_play.specs.Board.{Board, cards_at}
use Rattle.dd_cards.specs.Seats.{seat_after}
use Rattle.dd_play.specs.Play.{after}
use Rattle.dd_play.specs.Simulations.{IsLegal}
use Rattle.dd_relative.specs.Gapped.{IsGapped}
use Rattle.dd_relative.specs.Relative.{IsRelative, led_by_north}
use Rattle.dd_relative.specs.UnderWay.{under_way, IsUnderWay}
use Rattle.dd_relative.specs.WinningRanks.{AreBefore, AreOpened}
use Rattle.dd_relative.proofs.Opened.{opened-before}
use Rattle.dd_relative.proofs.Turned.{turned-gapped}
use Rattle.dd_relative.proofs.UnderWay.{lie-number, three-are, trick-open}

-- four cards put together, as code does it
pub put-four : (x y z d : PlayingCard) (n a b c g : List PlayingCard) → n ≡ [] → a ≡ with_card n x → b ≡ with_card a y → c ≡ with_card b z → g ≡ with_card c d → g ≡ with_card (with_card (with_card (with_card [] x) y) z) d
put-four x y z d n a b c g en ea eb ec eg =
    eg ∙ ap (λ l. with_card l d) (ec ∙ ap (λ l. with_card l z) (eb ∙ ap (λ l. with_card l y) (ea ∙ ap (λ l. with_card l x) en)))

-- four cards that are these
pub four-same : (a b c d x y z w : PlayingCard) → a ≡ x → b ≡ y → c ≡ z → d ≡ w → a ∷ b ∷ c ∷ d ∷ [] ≡ x ∷ y ∷ z ∷ w ∷ []
four-same a b c d x y z w ea eb ec ed = rw (ea, eb, ec, ed) refl

pub trick-before : (b p : Board) (cards : List PlayingCard) (n : ℕ) (x y z d : PlayingCard) (later result : List PlayingCard) → IsRelative b → length cards ≡ 3 → n ≤ 3 → IsUnderWay b (take n cards)
    → under_way b (take n cards) ≡ p → length p.trick ≡ 3 → IsLegal p d
    → ((l s t f : List PlayingCard) (strain : Strain) → IsGapped (led_by_north l s t f strain) (slice_index_or cards 0 x ∷ slice_index_or cards 1 y ∷ slice_index_or cards 2 z ∷ d ∷ []) → AreOpened (led_by_north l s t f strain) later result) → AreBefore (after p d) later result
trick-before b p cards n x y z d later result relative three most under view full has opened =
    let number : n ≡ 3 = lie-number b cards n 3 relative three most (ap (λ (q : Board). length q.trick) view ∙ full) in
    let list : take n cards ≡ slice_index_or cards 0 x ∷ slice_index_or cards 1 y ∷ slice_index_or cards 2 z ∷ [] = three-are cards n x y z three number in
    let here : under_way b (slice_index_or cards 0 x ∷ slice_index_or cards 1 y ∷ slice_index_or cards 2 z ∷ []) ≡ p = ap (under_way b) (sym list) ∙ view in
    let q : Board = after (under_way b (slice_index_or cards 0 x ∷ slice_index_or cards 1 y ∷ slice_index_or cards 2 z ∷ [])) d in
    let gaps : List PlayingCard = slice_index_or cards 0 x ∷ slice_index_or cards 1 y ∷ slice_index_or cards 2 z ∷ d ∷ [] in
    let gapped : IsGapped q gaps =
    trick-open b (slice_index_or cards 0 x) (slice_index_or cards 1 y) (slice_index_or cards 2 z) d relative (subst (IsUnderWay b) list under) (subst (λ (r : Board). IsLegal r d) (sym here) has) in
    subst (λ (r : Board). AreBefore (after r d) later result) here
    (opened-before q gaps later result gapped
    (opened (cards_at q (seat_after q.first 0)) (cards_at q (seat_after q.first 1)) (cards_at q (seat_after q.first 2)) (cards_at q (seat_after q.first 3)) q.strain (turned-gapped q gaps gapped)))
