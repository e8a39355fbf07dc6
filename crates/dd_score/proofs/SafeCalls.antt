-- from each safe state the side has a call that keeps it safe, and no call of the other side ends it
use Rattle.std.proofs.Common.{◌≡◌, ℕ, ◌<◌, ◌≤◌, nat_le, nat_eq, cond, Bool, true, false, refl, sym, ap, ◌∙◌, inl, inr, arith}
use Rattle.std.proofs.lemmas.Bool.Decides.{eqb_tells, leb_tells}
use Rattle.dd_cards.specs.declared.seat.Seat.{Seat}
use Rattle.dd_cards.specs.declared.side.Side.{Side}
use Rattle.dd_cards.specs.Seats.{seat_after}
use Rattle.dd_cards.specs.Sides.{side_of, other_side}
use Rattle.dd_score.specs.declared.doubling.Doubling.{Doubling}
use Rattle.dd_score.specs.declared.doubling.Doubling.TheVariants.{Undoubled, Doubled, Redoubled}
use Rattle.dd_score.specs.Auctions.{Call, pass, bid, double, redouble, Auction, called, caller, last_bid, doubling, passes, first_to_name, declarer, is_over, IsLegal}
use Rattle.dd_score.specs.Bids.{strain_of}
use Rattle.dd_score.proofs.Namers.{apart, other-other, declarer-side}
use Rattle.dd_score.proofs.Strategies.{Keeps}
use Rattle.dd_score.proofs.SafeStates.{calls_made, IsChosen, IsWaiting, IsOwnBid, IsOtherBid, IsUnbid, other_bids, any_above, waiting-pass, waiting-lower, late_end}

-- from here on the side can make sure of the test
pub data IsSafe (side : Side) (none : Bool) (good makes : ℕ → Seat → Bool) (a : Auction) : Type 0 where
  waits : (dealer : Seat) (m i : ℕ) → IsChosen side good dealer m i → IsWaiting side good dealer m i a → IsSafe side none good makes a
  has_bid : IsOwnBid side good a → IsSafe side none good makes a
  was_bid : IsOtherBid side good makes a → IsSafe side none good makes a
  unbid : IsUnbid side none good a → IsSafe side none good makes a

-- what a test at the end has to do with what is good
pub record Tests (none : Bool) (good makes : ℕ → Seat → Bool) (side : Side) (test : Auction → Bool) : Type 0 where
  pub unbid : (a : Auction) → last_bid a ≡ 0 → none ≡ true → test a ≡ true
  pub own : (a : Auction) → 0 < last_bid a → side_of (declarer a) ≡ side → (doubling a ≡ Redoubled → ⊥)
      → good (last_bid a) (declarer a) ≡ true → test a ≡ true
  pub made : (a : Auction) → 0 < last_bid a → doubling a ≡ Undoubled → makes (last_bid a) (declarer a) ≡ true
      → good (last_bid a) (declarer a) ≡ true → test a ≡ true
  pub failed : (a : Auction) → 0 < last_bid a → side_of (declarer a) ≡ other_side side → (doubling a ≡ Undoubled → ⊥)
      → makes (last_bid a) (declarer a) ≡ false → good (last_bid a) (declarer a) ≡ true → test a ≡ true

module _ (side : Side) (none : Bool) (good makes : ℕ → Seat → Bool) where
  -- a turn can't be of both sides
  not_both : (a : Auction) → side_of (caller a) ≡ side → side_of (caller a) ≡ other_side side → ⊥
  not_both a own other = apart side (sym other ∙ own)

  -- the side's own bid stands after a pass
  own-pass : (a : Auction) → IsOwnBid side good a → IsOwnBid side good (called a pass)
  own-pass a o = record { some = o.some; bids = o.bids; here = o.here; mild = o.mild; above = o.above }

  -- ---- the other side's calls
  -- while the side waits
  waiting-other : (dealer : Seat) (m i : ℕ) → IsChosen side good dealer m i → (a : Auction) → IsWaiting side good dealer m i a
      → side_of (caller a) ≡ other_side side → (c : Call) → IsLegal a c → IsSafe side none good makes (called a c)
  waiting-other dealer m i chosen a w turn c legal = go c legal
    where
      early : calls_made a < i
      early = elim (eqb_tells (calls_made a) i) [
        | inl same ↦ absurd (not_both a (ap side_of (w.turn ∙ ap (seat_after dealer) same.1) ∙ chosen.own) turn)
        | inr other ↦ (let e : calls_made a ≤ i = w.early in omega (arith, other.1))
      ]

      here : good m (caller a) ≡ true
      here = ap (good m) w.turn ∙ chosen.before (calls_made a) early (sym (ap side_of w.turn) ∙ turn)

      same_bid : good m (first_to_name a (side_of (caller a)) (strain_of m) (caller a)) ≡ true
      same_bid = ap (λ s. good m (first_to_name a s (strain_of m) (caller a))) turn ∙ w.kept (strain_of m) (caller a) here

      equal_bid : (k : ℕ) → m ≡ k → IsOtherBid side good makes (called a (bid k))
      equal_bid k e = other_bids side good makes a k turn (let some : 0 < m = chosen.some in omega arith)
          (ap (λ j. good j (first_to_name a (side_of (caller a)) (strain_of j) (caller a))) (sym e) ∙ same_bid)
          (λ j s h most theirs. chosen.above j s (omega arith) most theirs)

      go : (c : Call) → IsLegal a c → IsSafe side none good makes (called a c)
      go pass legal = waits dealer m i chosen (waiting-pass side good dealer m i a early w)
      go (bid k) legal = elim (leb_tells m k) [
        | inl least ↦ elim (eqb_tells m k) [
          | inl same ↦ was_bid (equal_bid k same.1)
          | inr other ↦ was_bid (any_above side good makes a m k turn (let l = least.1 in omega (arith, other.1)) legal.1 chosen.above)
        ]
        | inr lower ↦ waits dealer m i chosen (waiting-lower side good dealer m i a k early turn lower.1 here w)
      ]
      go double legal = absurd (apart side (sym (w.others legal.0) ∙ legal.2 ∙ ap other_side turn ∙ other-other side))
      go redouble legal = absurd (let u = w.undoubled in let d = legal.1 in cc)

  -- after a bid of the side
  own-other : (a : Auction) → IsOwnBid side good a → side_of (caller a) ≡ other_side side → (c : Call) → IsLegal a c
      → IsSafe side none good makes (called a c)
  own-other a o turn pass legal = has_bid (own-pass a o)
  own-other a o turn (bid k) legal = was_bid (any_above side good makes a (last_bid a) k turn legal.0 legal.1 o.above)
  own-other a o turn double legal = has_bid (record { some = o.some; bids = o.bids; here = o.here; mild = λ e. cc; above = o.above })
  own-other a o turn redouble legal = absurd (apart side (sym turn ∙ sym legal.2 ∙ o.bids))

  -- after a bid of their own
  other-other_call : (a : Auction) → IsOtherBid side good makes a → side_of (caller a) ≡ other_side side → (c : Call) → IsLegal a c
      → IsSafe side none good makes (called a c)
  other-other_call a o turn pass legal =
      was_bid (record {
        some = o.some;
        bids = o.bids;
        here = o.here;
        above = o.above;
        made = o.made;
        failed = λ f u. absurd (not_both a (o.failed f u).1 turn);
      })
  other-other_call a o turn (bid k) legal = was_bid (any_above side good makes a (last_bid a) k turn legal.0 legal.1 o.above)
  other-other_call a o turn double legal = absurd (apart side (sym o.bids ∙ legal.2 ∙ ap other_side turn ∙ other-other side))
  other-other_call a o turn redouble legal =
      was_bid (record {
        some = o.some;
        bids = o.bids;
        here = o.here;
        above = o.above;
        made = λ t. absurd (let u = o.made t in let d = legal.1 in cc);
        failed = λ f u. absurd (cc);
      })

  -- where nothing was bid
  unbid-other : (a : Auction) → IsUnbid side none good a → side_of (caller a) ≡ other_side side → (c : Call) → IsLegal a c
      → IsSafe side none good makes (called a c)
  unbid-other a o turn pass legal = unbid (record { nothing = o.nothing; undoubled = o.undoubled; here = o.here; above = o.above })
  unbid-other a o turn (bid k) legal = was_bid (any_above side good makes a 0 k turn (let l = legal.0 in omega arith) legal.1 o.above)
  unbid-other a o turn double legal = absurd (let n = o.nothing in let l = legal.0 in omega arith)
  unbid-other a o turn redouble legal = absurd (let n = o.nothing in let l = legal.0 in omega arith)

  -- ---- the side's own calls
  -- while it waits: the seat bids, its partner passes
  waiting-own : (dealer : Seat) (m i : ℕ) → IsChosen side good dealer m i → (a : Auction) → IsWaiting side good dealer m i a
      → side_of (caller a) ≡ side → (c : Call) × IsLegal a c × IsSafe side none good makes (called a c)
  waiting-own dealer m i chosen a w turn = elim (eqb_tells (calls_made a) i) [
    | inl same ↦ (bid m, (w.low, chosen.most), has_bid (bids_now same.1))
    | inr other ↦ (pass, tt, waits dealer m i chosen (waiting-pass side good dealer m i a (let e : calls_made a ≤ i = w.early in omega (arith, other.1)) w))
  ]
    where
      bids_now : calls_made a ≡ i → IsOwnBid side good (called a (bid m))
      bids_now e = record {
        some = chosen.some;
        bids = turn;
        here = ap (good m) (ap (λ s. first_to_name a s (strain_of m) (caller a)) turn ∙ w.quiet (strain_of m) (caller a) ∙ w.turn ∙ ap (seat_after dealer) e) ∙ chosen.here;
        mild = λ f. cc;
        above = chosen.above;
      }

  -- after a bid of the other side: a double where it fails and isn't doubled
  other-own : (a : Auction) → IsOtherBid side good makes a → side_of (caller a) ≡ side
      → (c : Call) × IsLegal a c × IsSafe side none good makes (called a c)
  other-own a o turn = go (makes (last_bid a) (declarer a)) refl (doubling a) refl
    where
      passed : (makes (last_bid a) (declarer a) ≡ false → doubling a ≡ Undoubled → ⊥) → IsOtherBid side good makes (called a pass)
      passed no_more = record { some = o.some; bids = o.bids; here = o.here; above = o.above; made = o.made; failed = λ f u. absurd (no_more f u) }

      doubled : makes (last_bid a) (declarer a) ≡ false → IsOtherBid side good makes (called a double)
      doubled fails = record { some = o.some; bids = o.bids; here = o.here; above = o.above; made = λ t. absurd (cc); failed = λ f u. absurd (cc) }

      go : (b : Bool) → makes (last_bid a) (declarer a) ≡ b → (d : Doubling) → doubling a ≡ d
          → (c : Call) × IsLegal a c × IsSafe side none good makes (called a c)
      go true e d is = (pass, tt, was_bid (passed (λ f u. cc)))
      go false e Undoubled is = (double, (o.some, is, o.bids ∙ sym (ap other_side turn)), was_bid (doubled e))
      go false e Doubled is = (pass, tt, was_bid (passed (λ f u. cc)))
      go false e Redoubled is = (pass, tt, was_bid (passed (λ f u. cc)))

  -- ---- both, in any safe state
  own_turn : (a : Auction) → IsSafe side none good makes a → side_of (caller a) ≡ side → (c : Call) × IsLegal a c × IsSafe side none good makes (called a c)
  own_turn a (waits dealer m i chosen w) turn = waiting-own dealer m i chosen a w turn
  own_turn a (has_bid o) turn = (pass, tt, has_bid (own-pass a o))
  own_turn a (was_bid o) turn = other-own a o turn
  own_turn a (unbid o) turn = (pass, tt, unbid (record { nothing = o.nothing; undoubled = o.undoubled; here = o.here; above = o.above }))

  other_turn : (a : Auction) → IsSafe side none good makes a → side_of (caller a) ≡ other_side side → (c : Call) → IsLegal a c
      → IsSafe side none good makes (called a c)
  other_turn a (waits dealer m i chosen w) turn c legal = waiting-other dealer m i chosen a w turn c legal
  other_turn a (has_bid o) turn c legal = own-other a o turn c legal
  other_turn a (was_bid o) turn c legal = other-other_call a o turn c legal
  other_turn a (unbid o) turn c legal = unbid-other a o turn c legal

  -- a safe state that is an end passes the test
  safe_end : (test : Auction → Bool) → Tests none good makes side test → (a : Auction) → IsSafe side none good makes a → is_over a ≡ true → test a ≡ true
  safe_end test tests a (waits dealer m i chosen w) over =
      absurd (late_end (last_bid a) (passes a) (calls_made a) w.few w.fewer (let p : i < 4 = chosen.place in let e : calls_made a ≤ i = w.early in omega arith) over)
  safe_end test tests a (has_bid o) over = tests.own a o.some (declarer-side a ∙ o.bids) o.mild o.here
  safe_end test tests a (was_bid o) over = go (makes (last_bid a) (declarer a)) refl
    where
      still : (n p : ℕ) → 0 < n → p ≡ 0 → nat_le (cond (nat_eq n 0) 4 3) p ≡ true → ⊥
      still n p some none over = late_end n p 1 (omega arith) (λ _. omega arith) (omega arith) over

      go : (b : Bool) → makes (last_bid a) (declarer a) ≡ b → test a ≡ true
      go true e = tests.made a o.some (o.made e) e o.here
      go false e = tests.failed a o.some (declarer-side a ∙ o.bids) (λ u. still (last_bid a) (passes a) o.some (o.failed e u).0 over) e o.here
  safe_end test tests a (unbid o) over = tests.unbid a o.nothing o.here

  -- so the side can make sure of the test
  pub kept_safe : (test : Auction → Bool) → Tests none good makes side test → Keeps side test (IsSafe side none good makes)
  kept_safe test tests = record {
    ends = safe_end test tests;
    own = λ a safe on turn. own_turn a safe turn;
    other = λ a safe on turn c legal. other_turn a safe turn c legal;
  }
