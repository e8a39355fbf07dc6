-- the hands of a start of a trick, as code takes them
use Rattle.std.proofs.Common.{◌≡◌, Bool, true, false, refl, sym, ap, ◌∙◌, subst, List, []}
use Rattle.std.specs.Prelude.{filter, ◌||◌, ◌&&◌}
use mathlib.Core.Bool.{not}
use mathlib.Core.Path.{ap₂}
use Rattle.dd_cards.specs.declared.seat.Seat.{Seat}
use Rattle.dd_cards.specs.declared.strain.Strain.{Strain}
use Rattle.dd_cards.specs.PlayingCard.{PlayingCard}
use Rattle.dd_cards.specs.Ranks.{IsRank}
use Rattle.dd_cards.specs.Cards.{deck, has_card}
use Rattle.dd_cards.specs.Hands.{FourHands, hand_of}
use Rattle.dd_cards.specs.Seats.{next_seat}
use Rattle.dd_cards.proofs.CallerLemmas.{and-true, has_card-deck, has_card-filter}
use Rattle.dd_play.specs.Board.{Board, IsBoard}
use Rattle.dd_relative.specs.Gapped.{IsGapped}
use Rattle.dd_relative.specs.Relative.{led_by_north}
use Rattle.dd_relative.specs.Turned.{from_leader}
use Rattle.dd_relative.proofs.Boards.{held}
use Rattle.dd_relative.proofs.Packs.{pack-gaps}
use Rattle.dd_relative.proofs.Turned.{led-same, turned-board}
use Rattle.dd_rank.proofs.CallerLemmas.{at-seat}

pub start-same : (p : Board) (hands : FourHands) (first second third fourth : Seat) (l s t f : List PlayingCard) (strain : Strain) → hands ≡ p.hands → first ≡ p.first
    → second ≡ next_seat first → third ≡ next_seat second → fourth ≡ next_seat third
    → l ≡ hand_of hands first → s ≡ hand_of hands second → t ≡ hand_of hands third → f ≡ hand_of hands fourth → strain ≡ p.strain → led_by_north l s t f strain ≡ from_leader p
start-same p hands first second third fourth l s t f strain eh ef e2 e3 e4 el es et eu e =
    let third_at = e3 ∙ ap next_seat e2 in
    led-same p l s t f strain (at-seat p hands first first 0 l eh ef refl el) (at-seat p hands first second 1 s eh ef e2 es) (at-seat p hands first third 2 t eh ef third_at et)
    (at-seat p hands first fourth 3 f eh ef (e4 ∙ ap next_seat third_at) eu) e

-- four tests in two pairs
paired : (a b c d : Bool) → ((a || b) || (c || d)) ≡ (((a || b) || c) || d)
paired true b c d = refl
paired false true c d = refl
paired false false true d = refl
paired false false false d = refl

-- a card of either hand
either : (xs ys : List PlayingCard) (c : PlayingCard) → IsRank c.rank → has_card (filter (λ d. has_card xs d || has_card ys d) deck) c ≡ (has_card xs c || has_card ys c)
either xs ys c real = has_card-filter (λ d. has_card xs d || has_card ys d) deck c ∙ ap (λ b. (has_card xs c || has_card ys c) && b) (has_card-deck c real) ∙ sym (and-true _)

-- the cards of none of these hands are the gaps
pub start-gapped : (p : Board) (l s t f a b left gaps : List PlayingCard) (strain : Strain) → IsBoard p → p.trick ≡ [] → led_by_north l s t f strain ≡ from_leader p
    → a ≡ filter (λ d. has_card l d || has_card s d) deck → b ≡ filter (λ d. has_card t d || has_card f d) deck → left ≡ filter (λ d. has_card a d || has_card b d) deck
    → gaps ≡ filter (λ d. not (has_card left d)) deck → IsGapped (led_by_north l s t f strain) gaps
start-gapped p l s t f a b left gaps strain valid start same ea eb el eg =
    subst (λ (g : List PlayingCard). IsGapped (led_by_north l s t f strain) g) (sym eg)
    (pack-gaps (led_by_north l s t f strain) left (subst IsBoard (sym same) (turned-board p valid start)) refl
    (λ c real.
    ap (λ cards. has_card cards c) el ∙ either a b c real ∙ ap₂ (λ x y. x || y) (ap (λ cards. has_card cards c) ea ∙ either l s c real) (ap (λ cards. has_card cards c) eb ∙ either t f c real)
    ∙ paired (has_card l c) (has_card s c) (has_card t c) (has_card f c) ∙ sym (held l s t f strain c)))
