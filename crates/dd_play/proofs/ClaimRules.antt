-- the rules of claims: what a side takes, and how it follows from what it takes after one card more
use Rattle.std.proofs.Common.{◌≡◌, ℕ, ◌+◌, ◌-◌, ◌≤◌, Bool, true, false, refl, arith, List, [], ◌∷◌, zero-le}
use Rattle.std.specs.Prelude.{◌↔◌, ◌&&◌, if◌then◌else◌}
use Rattle.dd_cards.specs.PlayingCard.{PlayingCard}
use Rattle.dd_cards.specs.Cards.{has_card}
use Rattle.dd_cards.specs.Sides.{side_of, other_side, same_side, is_side}
use Rattle.dd_cards.specs.declared.side.Side.{Side}
use Rattle.dd_cards.specs.declared.side.Side.TheVariants.{NorthSouth, EastWest}
use Rattle.dd_play.specs.Board.{Board, IsBoard, mover, tricks_left}
use Rattle.dd_play.specs.Tricks.{winner_of}
use Rattle.dd_play.specs.Play.{legal, completes, trick_with, after}
use Rattle.dd_play.specs.Value.{ns, leaders_tricks}
use Rattle.dd_play.specs.Won.{won, trick_for}
use Rattle.dd_play.specs.Simulations.{IsLegal}
use Rattle.dd_play.specs.Claims.{Takes}
use Rattle.dd_play.proofs.Boards.{ns-le, has-first}
use Rattle.dd_play.proofs.Rules.{can, least, no-legal}

-- no trick may be claimed at any time
pub nothing : (side : Side) (p : Board) → Takes side p 0
nothing side p = zero-le

-- and fewer than are claimed
pub fewer : (side : Side) (p : Board) (n m : ℕ) → Takes side p n → m ≤ n → Takes side p m
fewer side p n m h k = omega arith

-- where the side is to play, one of its cards is enough
pub one-card : (side : Side) (p : Board) (c : PlayingCard) (n : ℕ) → IsBoard p → is_side side (mover p) ≡ true
    → IsLegal p c → Takes side (after p c) n → Takes side p (n + trick_for side p c)
one-card side p c n valid turn has h = let reach = can side p c valid turn has in omega (arith, reach, h)

-- where a trick is left there is a legal card
pub some-legal : (p : Board) → 1 ≤ tricks_left p → (d : PlayingCard) × IsLegal p d
some-legal p some = go (legal p) (no-legal p)
  where
    go : (cards : List PlayingCard) → (cards ≡ [] → tricks_left p ≡ 0) → (d : PlayingCard) × (has_card cards d ≡ true)
    go [] no_card = absurd (let e = no_card refl in omega (arith, e, some))
    go (d ∷ cards) no_card = (d, has-first d cards)

-- where the other side is to play, each of its cards has to leave the side as many
pub every-card : (side : Side) (p : Board) (n : ℕ) → IsBoard p → is_side side (mover p) ≡ false → 1 ≤ tricks_left p
    → ((c : PlayingCard) → IsLegal p c → (m : ℕ) × Takes side (after p c) m × (n ≤ m + trick_for side p c)) → Takes side p n
every-card side p n valid turn some each =
    let d = some-legal p some in
    least side p n valid turn d.0 d.1 (λ c has. (let k = each c has in let t = k.1 in let e = k.2 in omega (arith, t, e)))

-- a completed trick is won by one of the two sides
pub one-trick : (side : Side) (p : Board) (c : PlayingCard) → trick_for side p c + trick_for (other_side side) p c ≡ (if completes p then 1 else 0)
one-trick side p c = go side (completes p) (side_of (winner_of (trick_with p c) p.first p.strain))
  where
    go : (s : Side) (a : Bool) (winner : Side) → (if a && same_side winner s then 1 else 0) + (if a && same_side winner (other_side s) then 1 else 0) ≡ (if a then 1 else 0)
    go NorthSouth true NorthSouth = omega arith
    go NorthSouth true EastWest = omega arith
    go EastWest true NorthSouth = omega arith
    go EastWest true EastWest = omega arith
    go NorthSouth false winner = omega arith
    go EastWest false winner = omega arith

-- the two sides take all that are left
pub all : (side : Side) (p : Board) → IsBoard p → won side p + won (other_side side) p ≡ tricks_left p
all NorthSouth p valid = let h = ns-le p valid in omega (arith, h)
all EastWest p valid = let h = ns-le p valid in omega (arith, h)

-- so they claim no more together
pub both : (side : Side) (p : Board) (n m : ℕ) → IsBoard p → Takes side p n → Takes (other_side side) p m → n + m ≤ tricks_left p
both side p n m valid h k = let e = all side p valid in omega (arith, h, k, e)

-- and where their claims add up to all of them, they take no more
pub exactly : (side : Side) (p : Board) (n m : ℕ) → IsBoard p → Takes side p n → Takes (other_side side) p m → n + m ≡ tricks_left p → won side p ≡ n
exactly side p n m valid h k e = let s = all side p valid in omega (arith, h, k, e, s)

-- the leader's tricks are those of its side
pub leaders_tricks-won : (p : Board) → leaders_tricks p ≡ won (side_of p.first) p
leaders_tricks-won p = go (side_of p.first)
  where
    go : (side : Side) → (if same_side side NorthSouth then ns p else (tricks_left p - ns p)) ≡ won side p
    go NorthSouth = refl
    go EastWest = refl

-- bounds of the leader's tricks are a claim of each side
pub bounds : (p : Board) (lo hi : ℕ) → IsBoard p → p.trick ≡ [] → ((lo ≤ leaders_tricks p) × (leaders_tricks p ≤ hi))
    ↔ (Takes (side_of p.first) p lo × Takes (other_side (side_of p.first)) p (tricks_left p - hi))
bounds p lo hi valid start =
    let e = leaders_tricks-won p in
    let s = all (side_of p.first) p valid in
    (λ h. (let a = h.0 in let b = h.1 in (omega (arith, a, e), omega (arith, b, e, s))), λ h. (let a = h.0 in let b = h.1 in (omega (arith, a, e), omega (arith, b, e, s))))
