-- the ranks of a side's trumps, and what those of a rank or higher take
use Rattle.std.proofs.Common.{◌≡◌, ℕ, ◌+◌, ◌-◌, ◌<◌, ◌≤◌, Bool, true, false, cond, refl, sym, ap, ◌∙◌, subst, arith, List, [], ◌∷◌, length, inl, inr, min, zero-le}
use Rattle.std.specs.Prelude.{filter, map, nat_le, nat_lt, ◌&&◌, ◌||◌, ◌==◌, ◌⊎◌}
use mathlib.Core.Path.{ap₂}
use Rattle.std.proofs.lemmas.List.{length-map}
use Rattle.std.proofs.lemmas.Bool.{cases_lt, leb-true, le-leb, lt-ltb, eq-eqb, or_right}
use Rattle.std.proofs.lemmas.Bool.Decides.{nat_tests}
use Rattle.dd_cards.specs.declared.seat.Seat.{Seat}
use Rattle.dd_cards.specs.declared.seat.Seat.TheVariants.{North, East, South, West}
use Rattle.dd_cards.specs.declared.strain.Strain.{Strain}
use Rattle.dd_cards.specs.declared.strain.Strain.TheVariants.{Trump, Notrump}
use Rattle.dd_cards.specs.declared.suit.Suit.{Suit}
use Rattle.dd_cards.specs.PlayingCard.{PlayingCard}
use Rattle.dd_cards.specs.Ranks.{all_ranks, has_rank}
use Rattle.dd_cards.specs.Cards.{is_of, card_of, has_card}
use Rattle.dd_cards.specs.Seats.{seat_after}
use Rattle.dd_cards.proofs.CallerLemmas.{and-right, filter-filter, filter-map, has_rank-holding, ranks-from_cards, suit-ranks, seat_code-lt, has-filter, filter-members}
use Rattle.dd_play.specs.Board.{Board, IsBoard, cards_at}
use Rattle.dd_play.proofs.CallerLemmas.{after-code, flag_of, reach-of}
use Rattle.dd_quick.specs.QuickTricks.{RestsOnTrumps, from_rank, greatest, joint_trumps, longer_of, taken_from}
use Rattle.dd_quick.proofs.Hands.{one-hand}
use Rattle.dd_quick.proofs.Sound.{in-greatest}

-- ---- the ranks of two hands together

-- a rank more where it passes
length-if : (b : Bool) (x : ℕ) (xs : List ℕ) → length (cond b (x ∷ xs) xs) ≡ flag_of b + length xs
length-if true x xs = omega arith
length-if false x xs = omega arith

-- of two parts of a list that have nothing in common those that pass are as many as of both
parts-pass : (f g h : ℕ → Bool) (xs : List ℕ) → ((q : ℕ) → g q ≡ true → h q ≡ true → ⊥)
    → length (filter f (filter (λ q. g q || h q) xs)) ≡ length (filter f (filter g xs)) + length (filter f (filter h xs))
parts-pass f g h xs apart = ap length (filter-filter f (λ q. g q || h q) xs) ∙ each xs ∙ sym (ap₂ (λ a b. a + b) (ap length (filter-filter f g xs)) (ap length (filter-filter f h xs)))
  where
    flags : (a b d : Bool) → (a ≡ true → b ≡ true → ⊥) → flag_of ((a || b) && d) ≡ flag_of (a && d) + flag_of (b && d)
    flags true true d never = absurd (never refl refl)
    flags true false true never = refl
    flags true false false never = refl
    flags false true true never = refl
    flags false true false never = refl
    flags false false d never = refl

    each : (xs : List ℕ) → length (filter (λ q. (g q || h q) && f q) xs) ≡ length (filter (λ q. g q && f q) xs) + length (filter (λ q. h q && f q) xs)
    each [] = refl
    each (x ∷ xs) =
        let ih = each xs in
        let a : length (filter (λ q. g q && f q) (x ∷ xs)) ≡ flag_of (g x && f x) + length (filter (λ q. g q && f q) xs) = length-if (g x && f x) x (filter (λ q. g q && f q) xs) in
        let b : length (filter (λ q. h q && f q) (x ∷ xs)) ≡ flag_of (h x && f x) + length (filter (λ q. h q && f q) xs) = length-if (h x && f x) x (filter (λ q. h q && f q) xs) in
        let c : length (filter (λ q. (g q || h q) && f q) (x ∷ xs)) ≡ flag_of ((g x || h x) && f x) + length (filter (λ q. (g q || h q) && f q) xs) = length-if ((g x || h x) && f x) x (filter (λ q. (g q || h q) && f q) xs) in
        let here = flags (g x) (h x) (f x) (apart x) in
        omega (arith, ih, a, b, c, here)

-- of a list of ranks those that are not below a rank, and those that are
pub from-below : (r : ℕ) (ranks : List ℕ) → length (filter (nat_le r) ranks) + length (filter (λ q. nat_lt q r) ranks) ≡ length ranks
from-below r [] = refl
from-below r (x ∷ ranks) =
    let ih = from-below r ranks in
    let a : length (filter (nat_le r) (x ∷ ranks)) ≡ flag_of (nat_le r x) + length (filter (nat_le r) ranks) = length-if (nat_le r x) x (filter (nat_le r) ranks) in
    let b : length (filter (λ q. nat_lt q r) (x ∷ ranks)) ≡ flag_of (nat_lt x r) + length (filter (λ q. nat_lt q r) ranks) = length-if (nat_lt x r) x (filter (λ q. nat_lt q r) ranks) in
    let here : flag_of (nat_le r x) + flag_of (nat_lt x r) ≡ 1 = flags r x in
    omega (arith, ih, a, b, here)
  where
    flags : (r x : ℕ) → flag_of (nat_le r x) + flag_of (nat_lt x r) ≡ 1
    flags r x = elim (cases_lt x r) [
      | inl l ↦ rw (lt-ltb x r l, not-le r x l) refl
      | inr l ↦ rw (le-leb r x l, not-lt x r l) refl
    ]
      where
        not-le : (a b : ℕ) → b < a → nat_le a b ≡ false
        not-le a b h = grind (arith, nat_tests)

        not-lt : (a b : ℕ) → b ≤ a → nat_lt a b ≡ false
        not-lt a b h = grind (arith, nat_tests)

-- the ranks of a hand's cards of a suit are those of all ranks
suit-part : (p : Board) (x : Seat) (suit : Suit) (ranks : List ℕ) → IsBoard p → map (card_of suit) ranks ≡ filter (is_of suit) (cards_at p x) → ranks ≡ filter (λ q. has_card (cards_at p x) (card_of suit q)) all_ranks
suit-part p x suit ranks valid same = ranks-from_cards suit ranks (filter (λ q. has_card (cards_at p x) (card_of suit q)) all_ranks) (same ∙ suit-ranks suit (cards_at p x) (valid.sets x))

-- those that pass are the cards that do
ranks-pass : (suit : Suit) (r : ℕ) (ranks : List ℕ) (hand : List PlayingCard) → map (card_of suit) ranks ≡ filter (is_of suit) hand → length (filter (nat_le r) ranks) ≡ length (filter (λ c. is_of suit c && nat_le r c.rank) hand)
ranks-pass suit r ranks hand same =
    sym (length-map (filter (nat_le r) ranks) (card_of suit)) ∙ ap length (sym (filter-map (λ c. nat_le r c.rank) (card_of suit) ranks)) ∙ ap (λ l. length (filter (λ (c : PlayingCard). nat_le r c.rank) l)) same ∙ ap length (filter-filter (λ c. nat_le r c.rank) (is_of suit) hand)

-- the ranks of a seat and its partner
pub side-ranks : (p : Board) (seat : Seat) (suit : Suit) (own his both : List ℕ) → IsBoard p → map (card_of suit) own ≡ filter (is_of suit) (cards_at p seat) → map (card_of suit) his ≡ filter (is_of suit) (cards_at p (seat_after seat 2))
    → both ≡ filter (λ q. has_rank own q || has_rank his q) all_ranks → (r : ℕ) → length (filter (nat_le r) both) ≡ from_rank p seat suit r + from_rank p (seat_after seat 2) suit r
side-ranks p seat suit own his both valid mine partners union r =
    ap (λ l. length (filter (nat_le r) l)) same ∙ parts-pass (nat_le r) g h all_ranks apart
    ∙ ap₂ (λ a b. length (filter (nat_le r) a) + length (filter (nat_le r) b)) (sym is_own) (sym is_his)
    ∙ ap₂ (λ a b. a + b) (ranks-pass suit r own (cards_at p seat) mine) (ranks-pass suit r his (cards_at p (seat_after seat 2)) partners)
  where
    g : ℕ → Bool
    g q = has_card (cards_at p seat) (card_of suit q)

    h : ℕ → Bool
    h q = has_card (cards_at p (seat_after seat 2)) (card_of suit q)

    is_own : own ≡ filter g all_ranks
    is_own = suit-part p seat suit own valid mine

    is_his : his ≡ filter h all_ranks
    is_his = suit-part p (seat_after seat 2) suit his valid partners

    apart : (q : ℕ) → g q ≡ true → h q ≡ true → ⊥
    apart q x y = one-hand p valid (seat_after seat 2) seat (card_of suit q) (let a = after-code seat 2 in let b = seat_code-lt seat in omega (arith, a, b)) y x

    same : both ≡ filter (λ q. g q || h q) all_ranks
    same = union ∙ filter-members (λ q. has_rank own q || has_rank his q) (λ q. g q || h q) all_ranks (λ q real. ap₂ (λ a b. a || b) (has_rank-holding suit own (cards_at p seat) q mine) (has_rank-holding suit his (cards_at p (seat_after seat 2)) q partners))

-- the ranks of a side are ranks
pub side-real : (own his both : List ℕ) → both ≡ filter (λ q. has_rank own q || has_rank his q) all_ranks → (r : ℕ) → has_rank both r ≡ true → has_rank all_ranks r ≡ true
side-real own his both union r has = and-right (has_rank own r || has_rank his r) (has_rank all_ranks r) (sym (has-filter (λ q. has_rank own q || has_rank his q) all_ranks r) ∙ ap (λ l. has_rank l r) (sym union) ∙ has)

-- the partner of the next seat is the last
pub last-seat : (seat : Seat) → seat_after (seat_after seat 1) 2 ≡ seat_after seat 3
last-seat North = refl
last-seat East = refl
last-seat South = refl
last-seat West = refl

-- so the ranks of the next seat and its partner are those of both opponents
pub their-ranks : (p : Board) (seat left : Seat) (suit : Suit) (r : ℕ) → left ≡ seat_after seat 1 → from_rank p left suit r + from_rank p (seat_after left 2) suit r ≡ from_rank p (seat_after seat 1) suit r + from_rank p (seat_after seat 3) suit r
their-ranks p seat left suit r next = ap (λ x. from_rank p x suit r + from_rank p (seat_after x 2) suit r) next ∙ ap (λ x. from_rank p (seat_after seat 1) suit r + from_rank p x suit r) (last-seat seat)

-- ---- the greatest of the numbers by rank

-- numbers that are the same have the same greatest
greatest-same : (f g : ℕ → ℕ) (ranks : List ℕ) → ((r : ℕ) → f r ≡ g r) → greatest f ranks ≡ greatest g ranks
greatest-same f g [] same = refl
greatest-same f g (r ∷ ranks) same = (let a = same r in let b = greatest-same f g ranks same in omega (arith, a, b))

-- it is no greater than what none of its own exceeds
pub greatest-within : (f : ℕ → ℕ) (ranks : List ℕ) (n : ℕ) → ((r : ℕ) → has_rank ranks r ≡ true → f r ≤ n) → greatest f ranks ≤ n
greatest-within f [] n each = zero-le
greatest-within f (r ∷ ranks) n each =
    let a = each r (ap (λ b. b || has_rank ranks r) (eq-eqb r r refl)) in
    let b = greatest-within f ranks n (λ q h. each q (or_right (r == q) (has_rank ranks q) h)) in
    omega (arith, a, b)

-- how many ranks of the list are not below this one
abbrev pub from_list : ℕ → List ℕ → ℕ
from_list r ranks = length (filter (nat_le r) ranks)

-- fewer from a higher one
pub from-less : (q r : ℕ) (ranks : List ℕ) → r ≤ q → from_list q ranks ≤ from_list r ranks
from-less q r [] over = zero-le
from-less q r (x ∷ ranks) over =
    let ih = from-less q r ranks over in
    let a : from_list q (x ∷ ranks) ≡ flag_of (nat_le q x) + from_list q ranks = length-if (nat_le q x) x (filter (nat_le q) ranks) in
    let b : from_list r (x ∷ ranks) ≡ flag_of (nat_le r x) + from_list r ranks = length-if (nat_le r x) x (filter (nat_le r) ranks) in
    let here = flags (nat_le q x) (nat_le r x) (λ e. le-leb r x (let k = leb-true q x e in omega (arith, k, over))) in
    omega (arith, ih, a, b, here)
  where
    flags : (a b : Bool) → (a ≡ true → b ≡ true) → flag_of a ≤ flag_of b
    flags true b h = (let k : flag_of b ≡ 1 = ap flag_of (h refl) in omega (arith, k))
    flags false b h = zero-le

-- from any rank on there are none, or as many as from a rank of the list
pub next-rank : (r : ℕ) (ranks : List ℕ) → (from_list r ranks ≡ 0) ⊎ ((q : ℕ) × (has_rank ranks q ≡ true) × (r ≤ q) × (from_list r ranks ≤ from_list q ranks))
next-rank r [] = inl refl
next-rank r (x ∷ ranks) = go (nat_le r x) refl (next-rank r ranks)
  where
    Next : List ℕ → Type 0
    Next xs = (from_list r xs ≡ 0) ⊎ ((q : ℕ) × (has_rank xs q ≡ true) × (r ≤ q) × (from_list r xs ≤ from_list q xs))

    many : (q : ℕ) → from_list q (x ∷ ranks) ≡ flag_of (nat_le q x) + from_list q ranks
    many q = length-if (nat_le q x) x (filter (nat_le q) ranks)

    self : flag_of (nat_le x x) ≡ 1
    self = ap flag_of (le-leb x x (omega arith))

    here : has_rank (x ∷ ranks) x ≡ true
    here = ap (λ b. b || has_rank ranks x) (eq-eqb x x refl)

    go : (b : Bool) → nat_le r x ≡ b → Next ranks → Next (x ∷ ranks)
    go false e (inl none) = inl (let a = many r in let f : flag_of (nat_le r x) ≡ 0 = ap flag_of e in omega (arith, a, f, none))
    go false e (inr q) = inr (q.0, or_right (x == q.0) (has_rank ranks q.0) q.1, q.2, (let a = many r in let b = many q.0 in let f : flag_of (nat_le r x) ≡ 0 = ap flag_of e in let k = q.3 in omega (arith, a, b, f, k)))
    go true e (inl none) = inr (x, here, leb-true r x e, (let a = many r in let b = many x in let f : flag_of (nat_le r x) ≡ 1 = ap flag_of e in let s = self in omega (arith, a, b, f, s, none)))
    go true e (inr q) = elim (cases_lt q.0 x) [
      | inl l ↦ inr (q.0, or_right (x == q.0) (has_rank ranks q.0) q.1, q.2, (let a = many r in let b = many q.0 in let f : flag_of (nat_le r x) ≡ 1 = ap flag_of e in let g : flag_of (nat_le q.0 x) ≡ 1 = ap flag_of (le-leb q.0 x (omega (arith, l))) in let k = q.3 in omega (arith, a, b, f, g, k)))
      | inr l ↦ inr (x, here, leb-true r x e, (let a = many r in let b = many x in let f : flag_of (nat_le r x) ≡ 1 = ap flag_of e in let s = self in let k = q.3 in let m = from-less q.0 x ranks l in omega (arith, a, b, f, s, k, m)))
    ]

-- What the code counts, the greatest by the ranks of the side, is the greatest of all.
pub joint-is : (strain : Strain) (p : Board) (seat : Seat) (t : Suit) (ours theirs : List ℕ) (longer n : ℕ) → strain ≡ Trump t → ((r : ℕ) → has_rank ours r ≡ true → has_rank all_ranks r ≡ true)
    → ((r : ℕ) → from_list r ours ≡ from_rank p seat t r + from_rank p (seat_after seat 2) t r) → ((r : ℕ) → from_list r theirs ≡ from_rank p (seat_after seat 1) t r + from_rank p (seat_after seat 3) t r)
    → longer ≡ longer_of p seat t → n ≡ greatest (λ r. min (from_list r ours) longer - from_list r theirs) ours → n ≡ joint_trumps strain p seat
joint-is strain p seat t ours theirs longer n trump real mine others long most = most ∙ (let a = less in let b = more in omega (arith, a, b)) ∙ greatest-same f (taken_from p seat t) all_ranks same ∙ ap (λ s. joint_trumps s p seat) (sym trump)
  where
    f : ℕ → ℕ
    f r = min (from_list r ours) longer - from_list r theirs

    same : (r : ℕ) → f r ≡ taken_from p seat t r
    same r = (let a = mine r in let b = others r in omega (arith, a, b, long))

    less : greatest f ours ≤ greatest f all_ranks
    less = greatest-within f ours (greatest f all_ranks) (λ r has. in-greatest f all_ranks r (real r has))

    more : greatest f all_ranks ≤ greatest f ours
    more = greatest-within f all_ranks (greatest f ours) (λ r has. elim (next-rank r ours) [
      | inl none ↦ omega (arith, none)
      | inr q ↦ (let a = in-greatest f ours q.0 q.1 in let k = q.3 in let m = from-less q.0 r theirs q.2 in omega (arith, a, k, m))
    ])

-- What the code counts from a rank on, so many tricks rest on that rank, where the cards have it.
pub rank-rests : (strain : Strain) (p : Board) (seat : Seat) (t : Suit) (ours theirs : List ℕ) (longer n r : ℕ) (cards : List PlayingCard) → strain ≡ Trump t
    → ((r : ℕ) → from_list r ours ≡ from_rank p seat t r + from_rank p (seat_after seat 2) t r) → ((r : ℕ) → from_list r theirs ≡ from_rank p (seat_after seat 1) t r + from_rank p (seat_after seat 3) t r)
    → longer ≡ longer_of p seat t → n ≤ min (from_list r ours) longer - from_list r theirs → has_card cards (card_of t r) ≡ true → RestsOnTrumps strain p seat cards n
rank-rests strain p seat t ours theirs longer n r cards trump mine others long few there =
    subst (λ s. RestsOnTrumps s p seat cards n) (sym trump) (inl (inr (r, (let a = mine r in let b = others r in omega (arith, a, b, long, few)), reach-of cards (card_of t r) (card_of t r) there refl (omega arith))))

-- no tricks rest on no cards
pub none-rest : (strain : Strain) (p : Board) (seat : Seat) (cards : List PlayingCard) (n : ℕ) → n ≡ 0 → RestsOnTrumps strain p seat cards n
none-rest Notrump p seat cards n none = tt
none-rest (Trump t) p seat cards n none = inl (inl none)
