-- from what the code counts of the partner's tricks, and the cards that it puts together, to the claim that rests on them
use Rattle.std.proofs.Common.{◌≡◌, ◌≢◌, ℕ, zero, suc, ◌+◌, ◌-◌, ◌<◌, ◌≤◌, Bool, true, false, refl, sym, ap, ◌∙◌, arith, List, inl, inr, min, zero-le}
use Rattle.std.specs.Prelude.{nat_lt, ◌&&◌, ◌||◌, ◌==◌, ◌⊎◌, if◌then◌else◌}
use mathlib.Core.Path.{ap₂}
use Rattle.std.proofs.lemmas.Bool.{cases_lt, eqb-true, leb-true, ltb-true, or_cases, false_from_ne_true}
use Rattle.std.proofs.lemmas.Bool.Decides.{eqb_tells}
use Rattle.dd_cards.specs.declared.suit.Suit.{Suit}
use Rattle.dd_cards.specs.declared.suit.Suit.TheVariants.{Spades, Hearts, Diamonds, Clubs}
use Rattle.dd_cards.specs.PlayingCard.{PlayingCard}
use Rattle.dd_cards.specs.Cards.{is_of, card_of, has_card}
use Rattle.dd_cards.specs.Seats.{seat_after}
use Rattle.dd_cards.proofs.CallerLemmas.{and-left, and-right}
use Rattle.dd_play.specs.Board.{Board, tricks_left}
use Rattle.dd_play.specs.Tricks.{is_trump}
use Rattle.dd_play.specs.Reach.{reach}
use Rattle.dd_play.proofs.CallerLemmas.{reach-within}
use Rattle.dd_quick.specs.QuickTricks.{IsNext, RestsOnNext, RestsOnTrumps, all_partners, beside_trumps, cashed, crossed, has_entry, is_entry, is_next, is_partners_long, joint_trumps, length_at, longest_beside, next_run, no_trumps, partners_cashed, partners_tricks, run, suit_tricks, trumps_at}
use Rattle.dd_quick.specs.Sharing.{SomeOf, shares}
use Rattle.dd_quick.proofs.Cashing.{hand_on}
use Rattle.dd_quick.proofs.Hands.{IsOpposed}
use Rattle.dd_quick.proofs.Claims.{IsShared, both_unruffed, cashed-follows, cashed-le, cashed-plain, in-longest, joint-rests, long-or-run, run-length, shared-more, shared-tops, unruffed-follows, unruffed-least, unruffed-most}
use Rattle.dd_quick.proofs.Across.{RestsAcross}
use Rattle.dd_rank.proofs.CallerLemmas.{count-le}

-- ---- what is counted

-- the partner takes no more than the cards that it has beside one for each lead
partners-le : (p : Board) (u : Suit) → partners_tricks p u ≤ length_at p (seat_after p.first 2) u - run p p.first u
partners-le p u = go (is_partners_long p u)
  where
    go : (b : Bool) → (if b then length_at p (seat_after p.first 2) u - run p p.first u else min (next_run p u) (length_at p (seat_after p.first 2) u - run p p.first u)) ≤ length_at p (seat_after p.first 2) u - run p p.first u
    go true = omega arith
    go false = omega arith

-- and no more than those next below the run, but in a long suit
partners-long : (p : Board) (u : Suit) → (partners_tricks p u ≤ next_run p u) ⊎ (longest_beside p u ≤ run p p.first u + next_run p u)
partners-long p u = go (is_partners_long p u) refl
  where
    go : (b : Bool) → is_partners_long p u ≡ b → (partners_tricks p u ≤ next_run p u) ⊎ (longest_beside p u ≤ run p p.first u + next_run p u)
    go true e = inr (leb-true (longest_beside p u) (run p p.first u + next_run p u) e)
    go false e = inl (let k : partners_tricks p u ≡ min (next_run p u) (length_at p (seat_after p.first 2) u - run p p.first u) = ap (λ b. if b then length_at p (seat_after p.first 2) u - run p p.first u else min (next_run p u) (length_at p (seat_after p.first 2) u - run p p.first u)) e in omega (arith, k))

-- no other hand is longer than the longest beside the partner's
in-beside : (p : Board) (u : Suit) (i : ℕ) → i < 4 → i ≢ 2 → length_at p (seat_after p.first i) u ≤ longest_beside p u
in-beside p u zero l other = omega arith
in-beside p u (suc zero) l other = omega arith
in-beside p u (suc (suc zero)) l other = absurd (other refl)
in-beside p u (suc (suc (suc zero))) l other = omega arith
in-beside p u (suc (suc (suc (suc i)))) l other = absurd (omega (arith, l))

-- the partner cashes no more than its tricks, which no opponent with trumps can ruff
pub partners-most : (p : Board) (u : Suit) → partners_cashed p.strain p u ≤ partners_tricks p u
partners-most p u = elim (is_trump p.strain (card_of u 0)) as (λ b. (if b then 0 else both_unruffed p.strain p u (run p p.first u + partners_tricks p u) - run p p.first u) ≤ partners_tricks p u) [
  | true ↦ zero-le
  | false ↦ (let k = unruffed-most p.strain p u (run p p.first u + partners_tricks p u) in omega (arith, k))
]

-- an opponent with trumps has a card for each lead of both hands
pub partners-follow : (p : Board) (u : Suit) (i : ℕ) → IsOpposed i → (trumps_at p.strain p (seat_after p.first i) == 0) ≡ false → 1 ≤ partners_cashed p.strain p u → run p p.first u + partners_cashed p.strain p u ≤ length_at p (seat_after p.first i) u
partners-follow p u i opposed has some = go (is_trump p.strain (card_of u 0)) refl
  where
    go : (b : Bool) → is_trump p.strain (card_of u 0) ≡ b → run p p.first u + partners_cashed p.strain p u ≤ length_at p (seat_after p.first i) u
    go true e = absurd (let none : partners_cashed p.strain p u ≡ 0 = ap (λ b. if b then 0 else both_unruffed p.strain p u (run p p.first u + partners_tricks p u) - run p p.first u) e in omega (arith, none, some))
    go false e =
        let k : partners_cashed p.strain p u ≡ both_unruffed p.strain p u (run p p.first u + partners_tricks p u) - run p p.first u = ap (λ b. if b then 0 else both_unruffed p.strain p u (run p p.first u + partners_tricks p u) - run p p.first u) e in
        let most = unruffed-follows p.strain p u (run p p.first u + partners_tricks p u) i opposed has in
        omega (arith, k, most, some)

-- the suit is not trumps
pub partners-plain : (p : Board) (u : Suit) → 1 ≤ partners_cashed p.strain p u → is_trump p.strain (card_of u 0) ≡ false
partners-plain p u some = false_from_ne_true (is_trump p.strain (card_of u 0)) (λ e. let none : partners_cashed p.strain p u ≡ 0 = ap (λ b. if b then 0 else both_unruffed p.strain p u (run p p.first u + partners_tricks p u) - run p p.first u) e in omega (arith, none, some))

-- what crossing adds, where there is a suit to cross in
pub crossed-is : (p : Board) (t u v w : ℕ) (a b c d : Bool) (m : ℕ) → IsNext p Spades t a → IsNext p Hearts u b → IsNext p Diamonds v c → IsNext p Clubs w d → ((a || b) || (c || d)) ≡ true → m ≡ beside_trumps p → min (t + u + v + w) m ≡ crossed p
crossed-is p t u v w a b c d m s h di cl can size =
    let marked : has_entry p ≡ true = rw (← s.1, ← h.1, ← di.1, ← cl.1) can in
    let sums : min (t + u + v + w) m ≡ min (all_partners p) (beside_trumps p) = rw (s.0, h.0, di.0, cl.0, size) refl in
    sums ∙ sym (ap (λ x. if x then min (all_partners p) (beside_trumps p) else 0) marked)

-- where there is none
pub crossed-none : (p : Board) → has_entry p ≡ false → 0 ≡ crossed p
crossed-none p none = sym (ap (λ x. if x then min (all_partners p) (beside_trumps p) else 0) none)

-- as the code tells
pub no-entry : (p : Board) (t u v w : ℕ) (a b c d : Bool) → IsNext p Spades t a → IsNext p Hearts u b → IsNext p Diamonds v c → IsNext p Clubs w d → ((a || b) || (c || d)) ≡ false → has_entry p ≡ false
no-entry p t u v w a b c d s h di cl can = rw (← s.1, ← h.1, ← di.1, ← cl.1) can

-- crossing adds no more than the partner's tricks, nor than tricks are left beside trumps
pub crossed-most : (p : Board) → (crossed p ≤ all_partners p) × (crossed p ≤ beside_trumps p)
crossed-most p = go (has_entry p) (all_partners p) (beside_trumps p)
  where
    go : (b : Bool) (m n : ℕ) → ((if b then min m n else 0) ≤ m) × ((if b then min m n else 0) ≤ n)
    go true m n = (omega arith, omega arith)
    go false m n = (zero-le, zero-le)

-- and where the two hands need their other cards
pub crossed-full : (p : Board) → beside_trumps p ≡ 0 → 0 ≡ crossed p
crossed-full p full = (let k = crossed-most p in let l = k.1 in omega (arith, l, full))

-- where it adds some, there is a suit to cross in
pub some-entry : (p : Board) (t u v w : ℕ) (a b c d : Bool) → IsNext p Spades t a → IsNext p Hearts u b → IsNext p Diamonds v c → IsNext p Clubs w d → 1 ≤ crossed p → SomeOf a b c d t u v w
some-entry p t u v w a b c d s h di cl some = by (or_cases (is_entry p Spades || is_entry p Hearts) (is_entry p Diamonds || is_entry p Clubs) marked)
  where
    passes : (x : Bool) (n : ℕ) → 1 ≤ (if x then n else 0) → x ≡ true
    passes true n e = refl
    passes false n e = absurd (omega (arith, e))

    marked : has_entry p ≡ true
    marked = passes (has_entry p) _ some

    at : (x : Suit) (n : ℕ) (e : Bool) → IsNext p x n e → is_entry p x ≡ true → (e ≡ true) × (1 ≤ n)
    at x n e k entry = (
      k.1 ∙ entry,
      let same = k.0 in
          let l : 0 < partners_cashed p.strain p x = ltb-true 0 (partners_cashed p.strain p x) (and-left (nat_lt 0 (partners_cashed p.strain p x)) (nat_lt (run p p.first x) (length_at p p.first x)) entry) in
          omega (arith, same, l),
    )

    by : ((is_entry p Spades || is_entry p Hearts) ≡ true) ⊎ ((is_entry p Diamonds || is_entry p Clubs) ≡ true) → SomeOf a b c d t u v w
    by (inl k) = elim (or_cases (is_entry p Spades) (is_entry p Hearts) k) [ inl e ↦ inl (inl (at Spades t a s e)) | inr e ↦ inl (inr (at Hearts u b h e)) ]
    by (inr k) = elim (or_cases (is_entry p Diamonds) (is_entry p Clubs) k) [ inl e ↦ inr (inl (at Diamonds v c di e)) | inr e ↦ inr (inr (at Clubs w d cl e)) ]

-- ---- without trumps

-- no seat has a trump
none-at : (p : Board) → no_trumps p ≡ true → (i : ℕ) → i < 4 → (trumps_at p.strain p (seat_after p.first i) == 0) ≡ true
none-at p none i less = go i less
  where
    a : Bool
    a = trumps_at p.strain p p.first == 0

    b : Bool
    b = trumps_at p.strain p (seat_after p.first 1) == 0

    c : Bool
    c = trumps_at p.strain p (seat_after p.first 2) == 0

    d : Bool
    d = trumps_at p.strain p (seat_after p.first 3) == 0

    go : (i : ℕ) → i < 4 → (trumps_at p.strain p (seat_after p.first i) == 0) ≡ true
    go zero l = and-left a b (and-left (a && b) (c && d) none)
    go (suc zero) l = and-right a b (and-left (a && b) (c && d) none)
    go (suc (suc zero)) l = and-left c d (and-right (a && b) (c && d) none)
    go (suc (suc (suc zero))) l = and-right c d (and-right (a && b) (c && d) none)
    go (suc (suc (suc (suc i)))) l = absurd (omega (arith, l))

-- as a number
pub no-trumps-at : (p : Board) → no_trumps p ≡ true → (i : ℕ) → i < 4 → trumps_at p.strain p (seat_after p.first i) ≡ 0
no-trumps-at p none i l = eqb-true (trumps_at p.strain p (seat_after p.first i)) 0 (none-at p none i l)

-- ---- side suits

-- where the partner cashes some, the leader cashes its run
run-cashed : (p : Board) (u : Suit) → 1 ≤ partners_cashed p.strain p u → run p p.first u ≤ cashed p.strain p u
run-cashed p u some =
    let plain = partners-plain p u some in
    let all : cashed p.strain p u ≡ both_unruffed p.strain p u (suit_tricks p u) = ap (λ b. if b then 0 else both_unruffed p.strain p u (suit_tricks p u)) plain in
    let most = run-length p p.first u in
    let tricks : run p p.first u ≤ suit_tricks p u = elim (long-or-run p u) [ inl l ↦ (let x = l.1 in omega (arith, most, x)) | inr l ↦ (let x = l.1 in omega (arith, x)) ] in
    let least = unruffed-least p.strain p u (run p p.first u) (suit_tricks p u) tricks (λ i opposed has. (let k = partners-follow p u i opposed has some in omega (arith, k))) in
    omega (arith, all, least)

-- ---- the claim

-- what is counted of a suit of the partner's, its share and the cards on which that rests
pub record IsNextShared (p : Board) (u : Suit) (cards : List PlayingCard) (entry : Bool) (n : ℕ) : Type 0 where
  pub tricks : ℕ
  pub next : IsNext p u tricks entry
  pub few : n ≤ tricks
  pub rests : RestsOnNext p u cards n

-- with more cards as many are reached
pub next-more : (p : Board) (u : Suit) (few many : List PlayingCard) (n : ℕ) → ((c : PlayingCard) → has_card few c ≡ true → has_card many c ≡ true) → RestsOnNext p u few n → RestsOnNext p u many n
next-more p u few many n within r =
    let m = count-le (λ c. (is_of u c && is_next p c) && reach few c) (λ c. (is_of u c && is_next p c) && reach many c) (hand_on p 2) (λ c has pass.
    ap₂ (λ a b. a && b) (and-left (is_of u c && is_next p c) (reach few c) pass) (reach-within few many within c (and-right (is_of u c && is_next p c) (reach few c) pass))) in
    omega (arith, r, m)

-- Shares of what the leader cashes, all of it in a suit where the partner has a share; shares of the partner's tricks, one of them in a suit to
-- cross in; and joint trumps: what crossing rests on.
pub across-rests : (p : Board) (few cards : List PlayingCard) (s h di cl t u v w m : ℕ) (a b c d : Bool)
    → (1 ≤ t → s ≡ cashed p.strain p Spades) → (1 ≤ u → h ≡ cashed p.strain p Hearts) → (1 ≤ v → di ≡ cashed p.strain p Diamonds) → (1 ≤ w → cl ≡ cashed p.strain p Clubs)
    → IsShared p Spades few s → IsShared p Hearts few h → IsShared p Diamonds few di → IsShared p Clubs few cl → ((e : PlayingCard) → has_card few e ≡ true → has_card cards e ≡ true)
    → IsNextShared p Spades cards a t → IsNextShared p Hearts cards b u → IsNextShared p Diamonds cards c v → IsNextShared p Clubs cards d w → SomeOf a b c d t u v w
    → s + h + di + cl + (t + u + v + w) + trumps_at p.strain p p.first ≤ tricks_left p → s + h + di + cl + (t + u + v + w) + trumps_at p.strain p (seat_after p.first 2) ≤ tricks_left p
    → m ≤ joint_trumps p.strain p p.first → RestsOnTrumps p.strain p p.first cards m
    → (e : Suit) × RestsAcross (reach cards) p (shares s h di cl) (λ x. min (shares t u v w x) (next_run p x)) (shares t u v w) e m
across-rests p few cards s h di cl t u v w m a b c d s_is h_is d_is c_is sp he dm cb more sn hn dn cn some room spare joint trumps = elim some [
  | inl x ↦ elim x [ inl k ↦ by Spades (sn.next.1) k | inr k ↦ by Hearts (hn.next.1) k ]
  | inr x ↦ elim x [ inl k ↦ by Diamonds (dn.next.1) k | inr k ↦ by Clubs (cn.next.1) k ]
]
  where
    n : Suit → ℕ
    n = shares s h di cl

    y : Suit → ℕ
    y = shares t u v w

    marks : Suit → Bool
    marks Spades = a
    marks Hearts = b
    marks Diamonds = c
    marks Clubs = d

    all : (x : Suit) → 1 ≤ y x → n x ≡ cashed p.strain p x
    all Spades = s_is
    all Hearts = h_is
    all Diamonds = d_is
    all Clubs = c_is

    own : (x : Suit) → IsShared p x cards (n x)
    own Spades = shared-more p Spades few cards s more sp
    own Hearts = shared-more p Hearts few cards h more he
    own Diamonds = shared-more p Diamonds few cards di more dm
    own Clubs = shared-more p Clubs few cards cl more cb

    -- of a suit no more than is cashed in it
    fewer : (x : Suit) → n x ≤ cashed p.strain p x
    fewer x = (let f = (own x).few in let e = (own x).cash.0 in omega (arith, f, e))

    his : (x : Suit) → IsNextShared p x cards (marks x) (y x)
    his Spades = sn
    his Hearts = hn
    his Diamonds = dn
    his Clubs = cn

    -- of a suit no more than the partner cashes
    less : (x : Suit) → y x ≤ partners_cashed p.strain p x
    less x = (let f = (his x).few in let e = (his x).next.0 in omega (arith, f, e))

    -- a suit in which the partner has some is not long, and the leader cashes its run alone
    short : (x : Suit) → 1 ≤ y x → n x ≤ run p p.first x
    short x some =
        let e = all x some in
        let most = cashed-le p.strain p x in
        let partner = in-longest p x 2 (omega arith) (omega arith) in
        let spare = partners-le p x in
        let tricks = partners-most p x in
        let l = less x in
        elim (long-or-run p x) [
          | inl z ↦ absurd (let k = z.0 in omega (arith, k, some, l, tricks, partner, spare))
          | inr z ↦ (let k = z.1 in omega (arith, e, most, k))
        ]

    -- and the whole run
    long-run : (x : Suit) → 1 ≤ y x → run p p.first x ≤ n x
    long-run x some = (let l = less x in let r = run-cashed p x (omega (arith, l, some)) in let e = all x some in omega (arith, r, e))

    -- an opponent with trumps follows suit to all
    follows : (i : ℕ) → IsOpposed i → (trumps_at p.strain p (seat_after p.first i) == 0) ≡ false → (x : Suit) → n x + y x ≤ length_at p (seat_after p.first i) x
    follows i opposed has x = elim (cases_lt 0 (y x)) [
      | inl some ↦ (let l = less x in let k = partners-follow p x i opposed has (omega (arith, l, some)) in let r = short x some in omega (arith, l, k, r))
      | inr none ↦ (let e = fewer x in let k = cashed-follows p.strain p x i opposed has in omega (arith, none, e, k))
    ]

    by : (e : Suit) → marks e ≡ is_entry p e → (marks e ≡ true) × (1 ≤ y e) → (e : Suit) × RestsAcross (reach cards) p (shares s h di cl) (λ x. min (shares t u v w x) (next_run p x)) (shares t u v w) e m
    by e same k = (
      e,
      record {
        plain = λ x counted. elim (cases_lt 0 (y x)) [
          | inl some ↦ partners-plain p x (let l = less x in omega (arith, l, some))
          | inr none ↦ cashed-plain p.strain p x (let l = fewer x in omega (arith, l, none, counted))
        ];
        follows = λ i opposed. elim (eqb_tells (trumps_at p.strain p (seat_after p.first i)) 0) [ inl z ↦ inl z.1 | inr z ↦ inr (follows i opposed z.0) ];
        held = λ x. (
            let e = fewer x in
            let most = cashed-le p.strain p x in
            let r = run-length p p.first x in
            elim (long-or-run p x) [ inl l ↦ (let z = l.1 in omega (arith, e, most, z)) | inr l ↦ (let z = l.1 in omega (arith, e, most, z, r)) ]);
        low = (
            let y_e = k.1 in
            let r = short e y_e in
            let over = beside in
            omega (arith, r, over));
        tops = λ x counted. long-run x (omega (arith, counted));
        winners = λ x i l m. shared-tops p x cards (n x) i (own x) l m;
        has = λ x. (let r = (his x).rests in omega (arith, r));
        of_all = λ x. omega arith;
        alone = λ x. elim (cases_lt (next_run p x) (y x)) [
          | inl over ↦ inr (λ i l other. (
              let few = less x in
              let most = partners-most p x in
              let cashed_run = long-run x (omega (arith, over)) in
              let one = in-beside p x i l other in
              elim (partners-long p x) [ inl next ↦ absurd (omega (arith, over, few, most, next)) | inr long ↦ omega (arith, over, cashed_run, one, long) ]))
          | inr under ↦ inl (omega (arith, under))
        ];
        room = λ x. elim (cases_lt 0 (y x)) [ inl some ↦ inr (let l = less x in let most = partners-most p x in let spare = partners-le p x in let r = short x some in omega (arith, l, most, spare, r, some)) | inr nothing ↦ inl (omega (arith, nothing)) ];
        entry = (
            let y_e = k.1 in
            let l = less e in
            let most = partners-most p e in
            let over = beside in
            let one = in-beside p e 0 (omega arith) (λ z. omega (arith, z)) in
            elim (partners-long p e) [ inl next ↦ omega (arith, y_e, l, most, next) | inr long ↦ omega (arith, y_e, over, one, long) ]);
        mine = room;
        his = spare;
        joint = joint;
        trumps = joint-rests p.strain p 0 cards m joint trumps;
      },
    )
      where
        -- the leader has a card beside its run
        beside : run p p.first e < length_at p p.first e
        beside = (
            let entry : is_entry p e ≡ true = sym same ∙ k.0 in
            ltb-true (run p p.first e) (length_at p p.first e) (and-right (nat_lt 0 (partners_cashed p.strain p e)) (nat_lt (run p p.first e) (length_at p p.first e)) entry))
