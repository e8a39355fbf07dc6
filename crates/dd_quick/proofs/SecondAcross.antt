-- Second hand wins, and then crosses to its partner: what that rests on in the position before the lead, with the lead there, is
-- a claim after the lead too.
use Rattle.std.proofs.Common.{◌≡◌, ℕ, ◌+◌, ◌≤◌, Bool, refl, sym, ap, ◌∙◌, subst, [], ◌∷◌, inl, inr}
use Rattle.dd_cards.specs.declared.suit.Suit.{Suit}
use Rattle.dd_cards.specs.PlayingCard.{PlayingCard}
use Rattle.dd_cards.specs.declared.seat.Seat.{Seat}
use Rattle.dd_cards.specs.Seats.{seat_after}
use Rattle.dd_cards.specs.Sides.{side_of}
use Rattle.dd_cards.proofs.CallerLemmas.{is-same}
use Rattle.dd_play.specs.Board.{Board}
use Rattle.dd_play.specs.Reach.{TakesBy}
use Rattle.dd_play.specs.Won.{won}
use Rattle.dd_play.proofs.CallerLemmas.{turn-turn}
use Rattle.dd_quick.specs.SecondHand.{IsBeforeLead, unled}
use Rattle.dd_quick.proofs.Across.{RestsAcross, crosses-there}
use Rattle.dd_quick.proofs.Cashing.{total}
use Rattle.dd_quick.proofs.PartnersPlan.{cross-plan}
use Rattle.dd_quick.proofs.Hands.{IsOpposed}
use Rattle.dd_quick.proofs.LeadBack.{answered, cover-back}
use Rattle.dd_quick.proofs.SecondHand.{second-planned}
use Rattle.dd_quick.proofs.Sound.{own-side}

-- an opponent of the leader that is i places after it
second-across-by : (top : PlayingCard → Bool) (p : Board) (c : PlayingCard) (h : Seat) (i : ℕ) (n z y : Suit → ℕ) (e : Suit) (j : ℕ) → p.trick ≡ c ∷ [] → IsOpposed i → h ≡ seat_after p.first i → RestsAcross top (unled p c h) n z y e j → 1 ≤ n c.suit
    → TakesBy top (side_of h) p (total n + (total y + j))
second-across-by top p c h i n z y e j led opposed at rests some k to from t q r strict =
    let answer = answered to from top p.trick q.trick c led r.trick in
    let cover = cover-back top k to from (side_of h) p t q c answer.0 h led answer.1 answer.2 r in
    let can = crosses-there top k to from (side_of h) (unled p c h) t (unled q answer.0 (seat_after h k)) cover n z y e j refl rests refl in
    let seat : seat_after h k ≡ seat_after q.first i = ap (λ x. seat_after x k) at ∙ turn-turn p.first i k ∙ ap (λ x. seat_after x i) (sym r.first) in
    let plan = cross-plan (side_of (seat_after h k)) (unled q answer.0 (seat_after h k)) _ _ n z y e j cover.valid_q refl (own-side (seat_after h k)) can in
    let taken = second-planned q answer.0 (seat_after h k) i plan.0 n (total y + j) r.valid_q answer.1 opposed seat plan.1 (subst (λ u. 1 ≤ n u) (sym answer.2.suit) some) in
    let side = is-same (side_of (seat_after h k)) t (r.sides h ∙ own-side h) in
    subst (λ z. total n + (total y + j) ≤ won z q) side taken

-- an opponent
pub second-across : (top : PlayingCard → Bool) (p : Board) (c : PlayingCard) (before : Board) (n z y : Suit → ℕ) (e : Suit) (j : ℕ) → IsBeforeLead p c before → RestsAcross top before n z y e j → 1 ≤ n c.suit → TakesBy top (side_of before.first) p (total n + (total y + j))
second-across top p c before n z y e j ready rests some = elim ready.seat [ inl at ↦ go 1 (inl refl) at | inr at ↦ go 3 (inr refl) at ]
  where
    go : (i : ℕ) → IsOpposed i → before.first ≡ seat_after p.first i → TakesBy top (side_of before.first) p (total n + (total y + j))
    go i opposed at = second-across-by top p c before.first i n z y e j ready.led opposed at (subst (λ o. RestsAcross top o n z y e j) ready.was rests) some
