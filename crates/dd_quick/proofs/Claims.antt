-- from what the code counts, and the cards that it puts together, to the claims that rest on them
use Rattle.std.proofs.Common.{◌≡◌, ℕ, zero, suc, ◌+◌, ◌-◌, ◌<◌, ◌≤◌, Bool, true, false, refl, sym, ap, ◌∙◌, subst, arith, List, [], inl, inr, min, zero-le}
use Rattle.std.specs.Prelude.{nat_le, ◌&&◌, ◌==◌, ◌⊎◌, if◌then◌else◌}
use mathlib.Core.Path.{ap₂}
use Rattle.std.proofs.lemmas.Bool.{cases_lt, leb-true, true_from_ne_false}
use Rattle.std.proofs.lemmas.Bool.Decides.{eqb_tells, nat_tests}
use Rattle.dd_cards.specs.declared.seat.Seat.{Seat}
use Rattle.dd_cards.specs.declared.suit.Suit.{Suit}
use Rattle.dd_cards.specs.declared.suit.Suit.TheVariants.{Spades, Hearts, Diamonds, Clubs}
use Rattle.dd_cards.specs.declared.strain.Strain.{Strain}
use Rattle.dd_cards.specs.declared.strain.Strain.TheVariants.{Trump, Notrump}
use Rattle.dd_cards.specs.PlayingCard.{PlayingCard}
use Rattle.dd_cards.specs.Cards.{is_of, card_of, has_card}
use Rattle.dd_cards.specs.Seats.{seat_after}
use Rattle.dd_cards.specs.Sides.{side_of}
use Rattle.dd_cards.proofs.CallerLemmas.{and-left, and-right}
use Rattle.dd_play.specs.Board.{Board, IsBoard, cards_at, tricks_left}
use Rattle.dd_play.specs.Tricks.{is_trump}
use Rattle.dd_play.specs.Reach.{TakesBy, reach}
use Rattle.dd_play.proofs.CallerLemmas.{count, reach-upward, reach-within}
use Rattle.dd_quick.specs.QuickTricks.{IsCash, RestsOn, RestsOnTrumps, cashed, depth, is_long, is_winner, joint_trumps, length_at, longest, run, suit_tricks, trumps_at, unruffed}
use Rattle.dd_quick.specs.Sharing.{shares}
use Rattle.dd_quick.proofs.Hands.{IsOpposed}
use Rattle.dd_quick.proofs.Sound.{CanTake, joint-longer, length-left}
use Rattle.dd_quick.proofs.TrumpRanks.{last-seat}
use Rattle.dd_quick.proofs.Covered.{IsJoint, RestsOnTops, leader-by}
use Rattle.dd_rank.proofs.CallerLemmas.{count-le}

-- joint trumps that the cards reach are top cards
pub joint-rests : (strain : Strain) (p : Board) (i : ℕ) (cards : List PlayingCard) (m : ℕ) → m ≤ joint_trumps strain p (seat_after p.first i) → RestsOnTrumps strain p (seat_after p.first i) cards m → IsJoint strain (reach cards) p i m
joint-rests Notrump p i cards m few rests = tt
joint-rests (Trump t) p i cards m few rests = elim rests [
  | inl tops ↦ inl (elim tops [
    | inl none ↦ inl none
    | inr rank ↦ inr (rank.0, rank.1, λ c suit over. true_from_ne_false (reach cards c) (λ low. let under = reach-upward cards (card_of t rank.0) c rank.2 low (sym suit) in omega (arith, over, under)))
  ])
  | inr none ↦ inr none
]

-- ---- no more than is left

-- before a trick a hand has no more trumps than tricks are left
pub trumps-left : (strain : Strain) (p : Board) (i : ℕ) → IsBoard p → p.trick ≡ [] → i < 4 → trumps_at strain p (seat_after p.first i) ≤ tricks_left p
trumps-left Notrump p i valid start less = zero-le
trumps-left (Trump t) p i valid start less = length-left p i t valid start less

-- nor has the other side more joint trumps
pub joint-left : (strain : Strain) (p : Board) → IsBoard p → p.trick ≡ [] → joint_trumps strain p (seat_after p.first 1) ≤ tricks_left p
joint-left Notrump p valid start = zero-le
joint-left (Trump t) p valid start =
    let a = length-left p 1 t valid start (omega arith) in
    let b = length-left p 3 t valid start (omega arith) in
    let most = joint-longer t p (seat_after p.first 1) in
    let partner : length_at p (seat_after (seat_after p.first 1) 2) t ≡ length_at p (seat_after p.first 3) t = ap (λ x. length_at p x t) (last-seat p.first) in
    omega (arith, a, b, most, partner)

-- ---- leads that nobody ruffs

-- of n leads of the suit, those that neither opponent can ruff
abbrev pub both_unruffed : Strain → Board → Suit → ℕ → ℕ
both_unruffed strain p u n = unruffed strain p (seat_after p.first 1) u (unruffed strain p (seat_after p.first 3) u n)

-- the opponent's can't ruff more of them than there are
unruffed-le : (strain : Strain) (p : Board) (u : Suit) (i n : ℕ) → unruffed strain p (seat_after p.first i) u n ≤ n
unruffed-le strain p u i n = elim (trumps_at strain p (seat_after p.first i) == 0) as (λ b. (if b then n else min n (length_at p (seat_after p.first i) u)) ≤ n) [ true ↦ omega arith | false ↦ omega arith ]

-- with trumps no more than it has cards of the suit
unruffed-with : (strain : Strain) (p : Board) (u : Suit) (i n : ℕ) → (trumps_at strain p (seat_after p.first i) == 0) ≡ false → unruffed strain p (seat_after p.first i) u n ≤ length_at p (seat_after p.first i) u
unruffed-with strain p u i n e = (let k : unruffed strain p (seat_after p.first i) u n ≡ min n (length_at p (seat_after p.first i) u) = ap (λ b. if b then n else min n (length_at p (seat_after p.first i) u)) e in omega (arith, k))

-- they are no more
pub unruffed-most : (strain : Strain) (p : Board) (u : Suit) (n : ℕ) → both_unruffed strain p u n ≤ n
unruffed-most strain p u n = (let a = unruffed-le strain p u 1 (unruffed strain p (seat_after p.first 3) u n) in let b = unruffed-le strain p u 3 n in omega (arith, a, b))

-- and at most the length of an opponent that has trumps
pub unruffed-follows : (strain : Strain) (p : Board) (u : Suit) (n i : ℕ) → IsOpposed i → (trumps_at strain p (seat_after p.first i) == 0) ≡ false → both_unruffed strain p u n ≤ length_at p (seat_after p.first i) u
unruffed-follows strain p u n i opposed some = elim opposed [
  | inl e ↦ subst (λ j. both_unruffed strain p u n ≤ length_at p (seat_after p.first j) u) (sym e) (unruffed-with strain p u 1 (unruffed strain p (seat_after p.first 3) u n) (ap (λ j. trumps_at strain p (seat_after p.first j) == 0) (sym e) ∙ some))
  | inr e ↦ subst (λ j. both_unruffed strain p u n ≤ length_at p (seat_after p.first j) u) (sym e)
      (let a = unruffed-with strain p u 3 n (ap (λ j. trumps_at strain p (seat_after p.first j) == 0) (sym e) ∙ some) in let b = unruffed-le strain p u 1 (unruffed strain p (seat_after p.first 3) u n) in omega (arith, a, b))
]

-- as many as each opponent that has trumps can follow are among them
pub unruffed-least : (strain : Strain) (p : Board) (u : Suit) (m n : ℕ) → m ≤ n → ((i : ℕ) → IsOpposed i → (trumps_at strain p (seat_after p.first i) == 0) ≡ false → m ≤ length_at p (seat_after p.first i) u) → m ≤ both_unruffed strain p u n
unruffed-least strain p u m n few each = one 1 (inl refl) (unruffed strain p (seat_after p.first 3) u n) (one 3 (inr refl) n few)
  where
    one : (i : ℕ) → IsOpposed i → (n : ℕ) → m ≤ n → m ≤ unruffed strain p (seat_after p.first i) u n
    one i opposed n few = go (trumps_at strain p (seat_after p.first i) == 0) refl
      where
        go : (b : Bool) → (trumps_at strain p (seat_after p.first i) == 0) ≡ b → m ≤ unruffed strain p (seat_after p.first i) u n
        go true e = (let k : unruffed strain p (seat_after p.first i) u n ≡ n = ap (λ b. if b then n else min n (length_at p (seat_after p.first i) u)) e in omega (arith, k, few))
        go false e = (let k : unruffed strain p (seat_after p.first i) u n ≡ min n (length_at p (seat_after p.first i) u) = ap (λ b. if b then n else min n (length_at p (seat_after p.first i) u)) e in let l = each i opposed e in omega (arith, k, l, few))

-- ---- what the leader cashes in a suit

-- at most the tricks when no hand ruffs
pub cashed-le : (strain : Strain) (p : Board) (u : Suit) → cashed strain p u ≤ suit_tricks p u
cashed-le strain p u = elim (is_trump strain (card_of u 0)) as (λ b. (if b then 0 else both_unruffed strain p u (suit_tricks p u)) ≤ suit_tricks p u) [ true ↦ zero-le | false ↦ unruffed-most strain p u (suit_tricks p u) ]

-- and at most the length of an opponent that has trumps
pub cashed-follows : (strain : Strain) (p : Board) (u : Suit) (i : ℕ) → IsOpposed i → (trumps_at strain p (seat_after p.first i) == 0) ≡ false → cashed strain p u ≤ length_at p (seat_after p.first i) u
cashed-follows strain p u i opposed some = elim (is_trump strain (card_of u 0)) as (λ b. (if b then 0 else both_unruffed strain p u (suit_tricks p u)) ≤ length_at p (seat_after p.first i) u) [
  | true ↦ zero-le
  | false ↦ unruffed-follows strain p u (suit_tricks p u) i opposed some
]

-- none in trumps
pub cashed-plain : (strain : Strain) (p : Board) (u : Suit) → 1 ≤ cashed strain p u → is_trump strain (card_of u 0) ≡ false
cashed-plain strain p u some = go (is_trump strain (card_of u 0)) refl
  where
    go : (b : Bool) → is_trump strain (card_of u 0) ≡ b → is_trump strain (card_of u 0) ≡ false
    go false e = e
    go true e = absurd (let none : cashed strain p u ≡ 0 = ap (λ b. if b then 0 else unruffed strain p (seat_after p.first 1) u (unruffed strain p (seat_after p.first 3) u (suit_tricks p u))) e in omega (arith, none, some))

-- a run is no longer than the suit
pub run-length : (p : Board) (x : Seat) (u : Suit) → run p x u ≤ length_at p x u
run-length p x u = count-le (λ c. is_of u c && is_winner p x c) (is_of u) (cards_at p x) (λ c has pass. and-left (is_of u c) (is_winner p x c) pass)

-- the tricks of a suit are the run, or all cards, where the run is as long as any other hand's suit
pub long-or-run : (p : Board) (u : Suit) → ((longest p u ≤ run p p.first u) × (suit_tricks p u ≡ length_at p p.first u)) ⊎ ((run p p.first u < longest p u) × (suit_tricks p u ≡ run p p.first u))
long-or-run p u = go (is_long p u) refl
  where
    over : (a b : ℕ) → nat_le a b ≡ false → b < a
    over a b h = grind (arith, nat_tests)

    go : (b : Bool) → is_long p u ≡ b → ((longest p u ≤ run p p.first u) × (suit_tricks p u ≡ length_at p p.first u)) ⊎ ((run p p.first u < longest p u) × (suit_tricks p u ≡ run p p.first u))
    go true e = inl (leb-true (longest p u) (run p p.first u) e, rw e refl)
    go false e = inr (over (longest p u) (run p p.first u) e, rw e refl)

-- a hand that does not lead has no longer suit than the longest
pub in-longest : (p : Board) (u : Suit) (i : ℕ) → 1 ≤ i → i < 4 → length_at p (seat_after p.first i) u ≤ longest p u
in-longest p u zero l k = absurd (omega (arith, l))
in-longest p u (suc zero) l k = omega arith
in-longest p u (suc (suc zero)) l k = omega arith
in-longest p u (suc (suc (suc zero))) l k = omega arith
in-longest p u (suc (suc (suc (suc i)))) l k = absurd (omega (arith, k))

-- ---- the leader's side

-- what is counted of a suit, its share and the cards on which that rests
pub record IsShared (p : Board) (u : Suit) (cards : List PlayingCard) (n : ℕ) : Type 0 where
  pub tricks : ℕ
  pub cards_of : ℕ
  pub cash : IsCash p u tricks cards_of
  pub few : n ≤ tricks
  pub rests : RestsOn p u cards (min n cards_of)

-- with more cards as many winners are reached
pub rests-more : (p : Board) (u : Suit) (few many : List PlayingCard) (n : ℕ) → ((c : PlayingCard) → has_card few c ≡ true → has_card many c ≡ true) → RestsOn p u few n → RestsOn p u many n
rests-more p u few many n within r =
    let m = count-le (λ c. (is_of u c && is_winner p p.first c) && reach few c) (λ c. (is_of u c && is_winner p p.first c) && reach many c) (cards_at p p.first) (λ c has pass.
    ap₂ (λ a b. a && b) (and-left (is_of u c && is_winner p p.first c) (reach few c) pass) (reach-within few many within c (and-right (is_of u c && is_winner p p.first c) (reach few c) pass))) in
    omega (arith, r, m)

-- so a share rests on more cards too
pub shared-more : (p : Board) (u : Suit) (few many : List PlayingCard) (n : ℕ) → ((c : PlayingCard) → has_card few c ≡ true → has_card many c ≡ true) → IsShared p u few n → IsShared p u many n
shared-more p u few many n within s = record { tricks = s.tricks; cards_of = s.cards_of; cash = s.cash; few = s.few; rests = rests-more p u few many (min n s.cards_of) within s.rests }

-- so many winners are reached that the hand that is i places on yields the share
pub shared-tops : (p : Board) (u : Suit) (cards : List PlayingCard) (n i : ℕ) → IsShared p u cards n → 1 ≤ i → i < 4 → min n (length_at p (seat_after p.first i) u) ≤ count (λ c. (is_of u c && is_winner p p.first c) && reach cards c) (cards_at p p.first)
shared-tops p u cards n i s l k = elim (cases_lt 0 n) [
  | inl some ↦ (
      let few = s.few in
      let counted = s.cash.0 in
      let deep = s.cash.1 (omega (arith, few, some)) in
      let rests = s.rests in
      let most = cashed-le p.strain p u in
      let his = in-longest p u i l k in
      elim (long-or-run p u) [
        | inl e ↦ (let a = e.0 in omega (arith, deep, rests, his, a))
        | inr e ↦ (let a = e.0 in let b = e.1 in omega (arith, few, counted, deep, rests, most, a, b))
      ])
  | inr none ↦ omega (arith, none)
]

-- what is counted at the start of a trick, and the cards on which it rests
pub record IsSure (p : Board) (cards : List PlayingCard) (n : Suit → ℕ) (m : ℕ) : Type 0 where
  pub can : IsBoard p → CanTake p n m
  pub tops : RestsOnTops (reach cards) p n
  pub joint : IsJoint p.strain (reach cards) p 0 m

-- Shares of the side suits and of the joint trumps are so counted.
pub leader-sure : (p : Board) (few cards : List PlayingCard) (s h di cl m : ℕ) → p.trick ≡ [] → IsShared p Spades few s → IsShared p Hearts few h → IsShared p Diamonds few di → IsShared p Clubs few cl
    → ((e : PlayingCard) → has_card few e ≡ true → has_card cards e ≡ true)
    → s + h + di + cl ≤ tricks_left p - trumps_at p.strain p (seat_after p.first 2) → m ≤ joint_trumps p.strain p p.first → RestsOnTrumps p.strain p p.first cards m
    → IsSure p cards (shares s h di cl) m
leader-sure p few cards s h di cl m start sp he dm cb more throws joint trumps = record {
  can = can;
  tops = λ u i l k. shared-tops p u cards (n u) i (each u) l k;
  joint = joint-rests p.strain p 0 cards m joint trumps;
}
  where
    n : Suit → ℕ
    n = shares s h di cl

    each : (u : Suit) → IsShared p u cards (n u)
    each Spades = shared-more p Spades few cards s more sp
    each Hearts = shared-more p Hearts few cards h more he
    each Diamonds = shared-more p Diamonds few cards di more dm
    each Clubs = shared-more p Clubs few cards cl more cb

    -- of a suit no more than is cashed in it
    less : (u : Suit) → n u ≤ cashed p.strain p u
    less u = (let f = (each u).few in let e = (each u).cash.0 in omega (arith, f, e))

    can : IsBoard p → CanTake p n m
    can valid = record {
      held = λ u. (
          let f = less u in
          let t = cashed-le p.strain p u in
          let r = run-length p p.first u in
          elim (long-or-run p u) [ inl e ↦ (let x = e.1 in omega (arith, f, t, x)) | inr e ↦ (let x = e.1 in omega (arith, f, t, x, r)) ]);
      yields = λ u i l k. (
          let f = less u in
          let t = cashed-le p.strain p u in
          let his = in-longest p u i l k in
          elim (long-or-run p u) [ inl e ↦ (let x = e.0 in omega (arith, his, x)) | inr e ↦ (let x = e.1 in omega (arith, f, t, x)) ]);
      plain = λ u some. cashed-plain p.strain p u (let f = less u in omega (arith, f, some));
      follows = λ i opposed. elim (eqb_tells (trumps_at p.strain p (seat_after p.first i)) 0) [ inl e ↦ inl e.1 | inr e ↦ inr (λ u. let f = less u in let t = cashed-follows p.strain p u i opposed e.0 in omega (arith, f, t)) ];
      throws = (let t = trumps-left p.strain p 2 valid start (omega arith) in omega (arith, throws, t));
      joint = joint;
    }

-- They are a claim by the cards on which they rest.
pub leader-claim : (p : Board) (few cards : List PlayingCard) (s h di cl m : ℕ) → p.trick ≡ [] → IsShared p Spades few s → IsShared p Hearts few h → IsShared p Diamonds few di → IsShared p Clubs few cl
    → ((e : PlayingCard) → has_card few e ≡ true → has_card cards e ≡ true)
    → s + h + di + cl ≤ tricks_left p - trumps_at p.strain p (seat_after p.first 2) → m ≤ joint_trumps p.strain p p.first → RestsOnTrumps p.strain p p.first cards m
    → TakesBy (reach cards) (side_of p.first) p (s + h + di + cl + m)
leader-claim p few cards s h di cl m start sp he dm cb more throws joint trumps =
    let sure = leader-sure p few cards s h di cl m start sp he dm cb more throws joint trumps in
    leader-by (reach cards) p (shares s h di cl) m start sure.can sure.tops sure.joint

-- so many tricks that the leader cashes are a share
pub cashed-share : (p : Board) (u : Suit) (few many : List PlayingCard) (n : ℕ) → n ≤ cashed p.strain p u → RestsOn p u few (min n (depth p u)) → ((e : PlayingCard) → has_card few e ≡ true → has_card many e ≡ true) → IsShared p u many n
cashed-share p u few many n less rests more = record { tricks = cashed p.strain p u; cards_of = depth p u; cash = (refl, λ some. refl); few = less; rests = rests-more p u few many (min n (depth p u)) more rests }
