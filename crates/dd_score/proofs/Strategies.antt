-- a rule for a side's calls that keeps something true shows what the side can make sure of: no auction goes on for ever
use Rattle.std.proofs.Common.{◌≡◌, ℕ, zero, suc, ◌+◌, ◌-◌, ◌*◌, ◌<◌, nat_le, cond, Bool, true, false, refl, ◌⊎◌, inl, inr, arith}
use Rattle.std.proofs.lemmas.Bool.{leb-false}
use Rattle.dd_cards.specs.declared.side.Side.{Side}
use Rattle.dd_cards.specs.declared.side.Side.TheVariants.{NorthSouth, EastWest}
use Rattle.dd_cards.specs.Sides.{side_of, other_side}
use Rattle.dd_score.specs.declared.doubling.Doubling.{Doubling}
use Rattle.dd_score.specs.declared.doubling.Doubling.TheVariants.{Undoubled, Doubled, Redoubled}
use Rattle.dd_score.specs.Auctions.{Call, pass, bid, double, redouble, Auction, called, caller, last_bid, doubling, passes, is_over, IsLegal}
use Rattle.dd_score.specs.Values.{CanReach, at_end, by_a_call, by_any_call}

-- how often a bid can still be doubled or redoubled
abbrev doubles_left : Doubling → ℕ
doubles_left Undoubled = 2
doubles_left Doubled = 1
doubles_left Redoubled = 0

-- a number that each legal call makes less
abbrev pub calls_left : Auction → ℕ
calls_left a = 15 * (35 - last_bid a) + 5 * doubles_left (doubling a) + (4 - passes a)

-- an auction that goes on has less than four passes at its end
few_passes : (b : Bool) (p : ℕ) → nat_le (cond b 4 3) p ≡ false → p < 4
few_passes true p h = leb-false 4 p h
few_passes false p h = let k : p < 3 = leb-false 3 p h in omega arith

-- each legal call does
pub falls : (a : Auction) (c : Call) → is_over a ≡ false → IsLegal a c → calls_left (called a c) < calls_left a
falls a pass on legal = let few : passes a < 4 = few_passes _ (passes a) on in omega arith
falls a (bid k) on legal = let low = legal.0 in let high = legal.1 in omega arith
falls a double on legal = rw legal.1 (omega arith)
falls a redouble on legal = rw legal.1 (omega arith)

-- a side is this one or the other one
pub which : (x side : Side) → (x ≡ side) ⊎ (x ≡ other_side side)
which NorthSouth NorthSouth = inl refl
which NorthSouth EastWest = inr refl
which EastWest NorthSouth = inr refl
which EastWest EastWest = inl refl

-- what a side keeps true by its calls, whatever the other one calls, and what passes the test in the end
pub record Keeps (side : Side) (test : Auction → Bool) (Safe : Auction → Type 0) : Type 0 where
  pub ends : (a : Auction) → Safe a → is_over a ≡ true → test a ≡ true
  pub own : (a : Auction) → Safe a → is_over a ≡ false → side_of (caller a) ≡ side → (c : Call) × IsLegal a c × Safe (called a c)
  pub other : (a : Auction) → Safe a → is_over a ≡ false → side_of (caller a) ≡ other_side side → (c : Call) → IsLegal a c → Safe (called a c)

-- the side can make sure of the test
pub reach : (side : Side) (test : Auction → Bool) (Safe : Auction → Type 0) → Keeps side test Safe → (n : ℕ) (a : Auction) → calls_left a < n
    → Safe a → CanReach side test a
reach side test Safe keeps zero a h safe = absurd (omega arith)
reach side test Safe keeps (suc n) a h safe =
    go (λ c on legal s. reach side test Safe keeps n (called a c) (let f : calls_left (called a c) < calls_left a = falls a c on legal in omega arith) s)
    (is_over a) refl (which (side_of (caller a)) side)
  where
    go : ((c : Call) → is_over a ≡ false → IsLegal a c → Safe (called a c) → CanReach side test (called a c))
        → (b : Bool) → is_over a ≡ b → ((side_of (caller a) ≡ side) ⊎ (side_of (caller a) ≡ other_side side)) → CanReach side test a
    go next true over turn = at_end a over (keeps.ends a safe over)
    go next false on (inl own) =
        let step : (c : Call) × IsLegal a c × Safe (called a c) = keeps.own a safe on own in
        by_a_call a step.0 on own step.1 (next step.0 on step.1 step.2)
    go next false on (inr other) = by_any_call a on other (λ c legal. next c on legal (keeps.other a safe on other c legal))
