-- a cover of a cover is a cover: what an entry's position covers at depths, the position asked covers too
use Rattle.std.proofs.Common.{◌≡◌, ℕ, ◌+◌, ◌<◌, sym, ap, ◌∙◌, subst, arith}
use Rattle.dd_cards.specs.declared.seat.Seat.{Seat}
use Rattle.dd_cards.specs.declared.suit.Suit.{Suit}
use Rattle.dd_cards.specs.Cards.{has_card}
use Rattle.dd_cards.specs.Seats.{seat_after}
use Rattle.dd_cards.proofs.CallerLemmas.{seat_code-injective}
use Rattle.dd_play.specs.Board.{Board, cards_at}
use Rattle.dd_play.proofs.CallerLemmas.{after-code}
use Rattle.dd_play.specs.Covers.{count_of}
use Rattle.dd_rank.specs.Depths.{place, IsCoverAt}

-- two turns are one
turn-add : (x : Seat) (k j : ℕ) → seat_after (seat_after x k) j ≡ seat_after x (k + j)
turn-add x k j =
    let a = after-code x k in
    let b = after-code (seat_after x k) j in
    let c = after-code x (k + j) in
    seat_code-injective (seat_after (seat_after x k) j) (seat_after x (k + j)) (omega (arith, a, b, c))

-- a cover of a cover is a cover, by the two turns together
pub covers-chain : (depths : Suit → ℕ) (k j : ℕ) (p q r : Board) → IsCoverAt k depths p q → IsCoverAt j depths q r → IsCoverAt (k + j) depths p r
covers-chain depths k j p q r a b = record {
  start_p = a.start_p;
  start_q = b.start_q;
  strain = b.strain ∙ a.strain;
  first = b.first ∙ ap (λ x. seat_after x j) a.first ∙ turn-add p.first k j;
  most = a.most;
  lengths = λ x u. ap (λ y. count_of u (cards_at r y)) (sym (turn-add x k j)) ∙ b.lengths (seat_after x k) u ∙ a.lengths x u;
  forth = λ x c h low. (
      let d = a.forth x c h low in
      let e = b.forth (seat_after x k) d.0 d.1 (subst (λ u. place q d.0 < depths u) (sym d.2) (let s = d.3 in omega (arith, s, low))) in
      (e.0, ap (λ y. has_card (cards_at r y) e.0) (sym (turn-add x k j)) ∙ e.1, e.2 ∙ d.2, e.3 ∙ d.3));
  back = λ x e h low. (
      let d = b.back (seat_after x k) e (ap (λ y. has_card (cards_at r y) e) (turn-add x k j) ∙ h) low in
      let c = a.back x d.0 d.1 (subst (λ u. place q d.0 < depths u) (sym d.2) (let s = d.3 in omega (arith, s, low))) in
      (c.0, c.1, c.2 ∙ d.2, c.3 ∙ d.3));
}
