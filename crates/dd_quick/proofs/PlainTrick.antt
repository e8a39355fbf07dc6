-- A trick where no hand has a trump, by what one hand h keeps while it is played: the highest card of the suit led wins it, each
-- hand has followed suit if it could, and h has what it was to keep.
use Rattle.std.proofs.Common.{◌≡◌, ◌≢◌, ℕ, zero, suc, ◌+◌, ◌<◌, ◌≤◌, Bool, true, false, refl, sym, ap, ◌∙◌, subst, arith, List, [], ◌∷◌, ◌++◌, length, length-append, get_or, inl, inr}
use Rattle.std.specs.Prelude.{map, nat_le, nat_lt, ◌&&◌, ◌==◌, ◌⊎◌}
use Rattle.std.specs.List.{list_all}
use mathlib.Core.Bool.{not}
use mathlib.Core.Path.{ap₂}
use Rattle.std.proofs.lemmas.Bool.{leb-true, eqb-true, cases_lt, false_from_ne_true}
use Rattle.std.proofs.lemmas.Bool.Decides.{eqb_tells, nat_tests}
use Rattle.std.proofs.lemmas.List.{length-map, get_or-map}
use Rattle.std.proofs.lemmas.List.Sums.{passes_at_first}
use Rattle.std.proofs.lemmas.List.Folds.{list_all-map}
use Rattle.dd_cards.specs.declared.seat.Seat.{Seat}
use Rattle.dd_cards.specs.declared.suit.Suit.{Suit}
use Rattle.dd_cards.specs.declared.strain.Strain.{Strain}
use Rattle.dd_cards.specs.declared.side.Side.{Side}
use Rattle.dd_cards.specs.PlayingCard.{PlayingCard}
use Rattle.dd_cards.specs.Ranks.{IsRank}
use Rattle.dd_cards.specs.Cards.{is_of, same_card, has_card}
use Rattle.dd_cards.specs.Seats.{seat_code, seat_after}
use Rattle.dd_cards.specs.Sides.{is_side}
use Rattle.dd_cards.proofs.CallerLemmas.{filter-true, has_card-without, passes, same_card-eq, seat_code-lt}
use Rattle.dd_play.specs.Board.{Board, IsBoard, cards_at, mover, tricks_left}
use Rattle.dd_play.specs.Tricks.{is_trump, winning_place, winner_of}
use Rattle.dd_play.specs.Strength.{strength, strongest_place}
use Rattle.dd_play.specs.Play.{completes, trick_with, after}
use Rattle.dd_play.specs.Simulations.{IsLegal}
use Rattle.dd_play.specs.Covers.{count_of}
use Rattle.dd_play.specs.Won.{won, trick_for}
use Rattle.dd_play.proofs.CallerLemmas.{Obeys, after-code, can, count, count-some, flag_of, hand-others, hand-own, has-at, has-first, legal-leads, legal-out, of-suit', own-card, place-within, real-trick, same-or, strain-after, strength_by, suit-of, trick-after, trick-closed, was-in, winning-strongest, won_with}
use Rattle.dd_quick.proofs.Crossings.{HasFollowed, NoTrumps}
use Rattle.dd_quick.proofs.JointTrumps.{place-of}
use Rattle.dd_quick.proofs.Plays.{count-own, place-push, whoever}
use Rattle.dd_quick.proofs.TakenTrick.{some-left}

-- ---- the winner

-- The winning card of a trick without trumps is the highest of the suit led.
pub record IsHighest (trick : List PlayingCard) (u : Suit) (w : ℕ) (d : PlayingCard) : Type 0 where
  pub within : w < length trick
  pub suit : (get_or trick w d).suit ≡ u
  pub high : (x : PlayingCard) → has_card trick x ≡ true → x.suit ≡ u → x.rank ≤ (get_or trick w d).rank

-- it is
pub suit-wins : (strain : Strain) (led : PlayingCard) (rest : List PlayingCard) (d : PlayingCard) → ((x : PlayingCard) → has_card (led ∷ rest) x ≡ true → IsRank x.rank) → ((x : PlayingCard) → has_card (led ∷ rest) x ≡ true → is_trump strain x ≡ false)
    → IsHighest (led ∷ rest) led.suit (winning_place strain (led ∷ rest)) d
suit-wins strain led rest d real none = subst (λ w. IsHighest trick led.suit w d) (sym (winning-strongest strain trick real)) (record { within = within; suit = suit; high = high })
  where
    trick : List PlayingCard
    trick = led ∷ rest

    f : PlayingCard → ℕ
    f x = strength strain led.suit x

    w : ℕ
    w = strongest_place strain (led ∷ rest)

    inside : w < length (map f trick)
    inside = place-within (f led) (map f rest)

    within : w < length trick
    within = (let l = length-map trick f in omega (arith, inside, l))

    none-over : list_all (λ y. nat_le y (get_or (map f trick) w 0)) (map f trick) ≡ true
    none-over = passes_at_first (λ z. list_all (λ y. nat_le y z) (map f trick)) (map f trick) 0 inside

    over : (x : PlayingCard) → has_card trick x ≡ true → f x ≤ f (get_or trick w d)
    over x has =
        let each : list_all (λ y. nat_le (f y) (get_or (map f trick) w 0)) trick ≡ true = sym (list_all-map (λ y. nat_le y (get_or (map f trick) w 0)) f trick) ∙ none-over in
        let mine : nat_le (f x) (get_or (map f trick) w 0) ≡ true = passes (λ y. nat_le (f y) (get_or (map f trick) w 0)) x trick each has in
        leb-true (f x) (f (get_or trick w d)) (ap (nat_le (f x)) (sym (get_or-map f trick w d 0 within)) ∙ mine)

    -- a card of the suit led is as strong as its rank
    of-led : (x : PlayingCard) → has_card trick x ≡ true → x.suit ≡ led.suit → f x ≡ x.rank
    of-led x has e = ap₂ (λ a b. strength_by a b x.rank) (none x has) (of-suit' led.suit x e)

    best : PlayingCard
    best = get_or trick w d

    there : has_card trick best ≡ true
    there = has-at trick w d within

    suit : best.suit ≡ led.suit
    suit = go (is_of led.suit best) refl
      where
        go : (b : Bool) → is_of led.suit best ≡ b → best.suit ≡ led.suit
        go true e = suit-of led.suit best e
        go false e = absurd (
            let his : f best ≡ 0 = ap₂ (λ a b. strength_by a b best.rank) (none best there) e in
            let mine = of-led led (has-first led rest) refl in
            let low = (real led (has-first led rest)).0 in
            let most = over led (has-first led rest) in
            omega (arith, his, mine, low, most))

    high : (x : PlayingCard) → has_card trick x ≡ true → x.suit ≡ led.suit → x.rank ≤ best.rank
    high x has e = (let a = of-led x has e in let b = of-led best there suit in let most = over x has in omega (arith, a, b, most))

-- ---- hands and places

-- before a trick each hand has as many cards as tricks are left
pub hand-left : (p : Board) → IsBoard p → p.trick ≡ [] → (x : Seat) → length (cards_at p x) ≡ tricks_left p
hand-left p valid start x =
    let at = place-of p.first x in
    let even = valid.even at.0 at.1 in
    let flag : flag_of (nat_lt at.0 (length p.trick)) ≡ 0 = ap flag_of (not-under at.0 (length p.trick) (ap length start)) in
    let same : length (cards_at p x) ≡ length (cards_at p (seat_after p.first at.0)) = ap (λ y. length (cards_at p y)) at.2 in
    omega (arith, even, flag, same)
  where
    not-under : (a b : ℕ) → b ≡ 0 → nat_lt a b ≡ false
    not-under a b h = grind (arith, nat_tests)

-- a card of a list stands at a place
pub at-place : (cards : List PlayingCard) (x d : PlayingCard) → has_card cards x ≡ true → (i : ℕ) × (i < length cards) × (get_or cards i d ≡ x)
at-place [] x d has = absurd (cc)
at-place (c ∷ cards) x d has = go (same_card c x) refl (at-place cards x d)
  where
    go : (b : Bool) → same_card c x ≡ b → (has_card cards x ≡ true → (i : ℕ) × (i < length cards) × (get_or cards i d ≡ x)) → (i : ℕ) × (i < length (c ∷ cards)) × (get_or (c ∷ cards) i d ≡ x)
    go true e ih = (0, omega arith, same_card-eq c x e)
    go false e ih = (let r = ih (rw e at has) in (suc r.0, (let l = r.1 in omega (arith, l)), r.2))

-- ---- the trick

-- h keeps the cards that `keep` passes, and plays one that `spend` passes
module _ (s : Side) (h : Seat) (keep spend : PlayingCard → Bool) (p : Board) (m : PlayingCard) (none : NoTrumps p) where
  -- the trick to which m was led at p
  pub record IsUnder (q : Board) : Type 0 where
    pub valid : IsBoard q
    pub same : q.strain ≡ p.strain
    pub first : q.first ≡ p.first
    pub led : (tail : List PlayingCard) × (q.trick ≡ m ∷ tail)
    pub part : (x : Seat) (c : PlayingCard) → has_card (cards_at q x) c ≡ true → has_card (cards_at p x) c ≡ true
    pub keeps : (c : PlayingCard) → keep c ≡ true → has_card (cards_at q h) c ≡ true
    pub still : (i : ℕ) → length q.trick ≤ i → i < 4 → cards_at q (seat_after p.first i) ≡ cards_at p (seat_after p.first i)
    pub fewer : (x : Seat) (test : PlayingCard → Bool) → count test (cards_at q x) ≤ count test (cards_at p x)
    pub followed : (i : ℕ) → i < length q.trick → HasFollowed m.suit p q (seat_after p.first i)
    pub played : (i : ℕ) (d : PlayingCard) → i < length q.trick → has_card (cards_at p (seat_after p.first i)) (get_or q.trick i d) ≡ true
    pub spent : (i : ℕ) (d : PlayingCard) → i < length q.trick → seat_after p.first i ≡ h → spend (get_or q.trick i d) ≡ true
    pub paid : length (cards_at q p.first) + 1 ≡ tricks_left p

  -- and its end, with the last card c
  pub record IsDone (q : Board) (c : PlayingCard) : Type 0 where
    pub valid : IsBoard (after q c)
    pub same : (after q c).strain ≡ p.strain
    pub start : (after q c).trick ≡ []
    pub part : (x : Seat) (d : PlayingCard) → has_card (cards_at (after q c) x) d ≡ true → has_card (cards_at p x) d ≡ true
    pub keeps : (d : PlayingCard) → keep d ≡ true → has_card (cards_at (after q c) h) d ≡ true
    pub fewer : (x : Seat) (test : PlayingCard → Bool) → count test (cards_at (after q c) x) ≤ count test (cards_at p x)
    pub followed : (x : Seat) → HasFollowed m.suit p (after q c) x
    pub size : tricks_left (after q c) + 1 ≡ tricks_left p
    pub points : is_side s (after q c).first ≡ true → trick_for s q c ≡ 1
    pub best : PlayingCard
    pub best_own : has_card (cards_at p (after q c).first) best ≡ true
    pub best_suit : best.suit ≡ m.suit
    pub spends : (x : PlayingCard) × (spend x ≡ true) × (x.suit ≡ m.suit → x.rank ≤ best.rank)

  -- a card is played, by h one that it need not keep
  module _ (q : Board) (c : PlayingCard) (now : IsUnder q) (has : IsLegal q c) (free : mover q ≡ h → (keep c ≡ false) × (spend c ≡ true)) where
    keeps-on : (d : PlayingCard) → keep d ≡ true → has_card (cards_at (after q c) h) d ≡ true
    keeps-on d k = elim (same-or h (mover q)) [
      | inl e ↦ (
          let before : has_card (cards_at q (mover q)) d ≡ true = subst (λ y. has_card (cards_at q y) d ≡ true) e (now.keeps d k) in
          let other : same_card d c ≡ false = false_from_ne_true (same_card d c) (λ z. let y : true ≡ false = sym k ∙ ap keep (same_card-eq d c z) ∙ (free (sym e)).0 in cc) in
          ap (λ y. has_card (cards_at (after q c) y) d) e ∙ ap (λ cards. has_card cards d) (hand-own q c now.valid) ∙ has_card-without (cards_at q (mover q)) c d ∙ ap₂ (λ a b. not a && b) other before)
      | inr apart ↦ ap (λ cards. has_card cards d) (hand-others q c h apart) ∙ now.keeps d k
    ]

    fewer-on : (x : Seat) (test : PlayingCard → Bool) → count test (cards_at (after q c) x) ≤ count test (cards_at p x)
    fewer-on x test = elim (same-or x (mover q)) [
      | inl e ↦ subst (λ y. count test (cards_at (after q c) y) ≤ count test (cards_at p y)) (sym e) (let k = count-own test q c now.valid has in let f = now.fewer (mover q) test in omega (arith, k, f))
      | inr apart ↦ (let e : count test (cards_at (after q c) x) ≡ count test (cards_at q x) = ap (count test) (hand-others q c x apart) in let f = now.fewer x test in omega (arith, e, f))
    ]

    part-on : (x : Seat) (d : PlayingCard) → has_card (cards_at (after q c) x) d ≡ true → has_card (cards_at p x) d ≡ true
    part-on x d k = now.part x d (was-in q c now.valid x d k)

    -- it follows suit if it can
    suited : 1 ≤ count_of m.suit (cards_at q (mover q)) → c.suit ≡ m.suit
    suited some =
        let card = count-some (is_of m.suit) (cards_at q (mover q)) some in
        let obeys : Obeys (m ∷ now.led.0) (cards_at q (mover q)) c = subst (λ trick. Obeys trick (cards_at q (mover q)) c) now.led.1 (legal-out q.trick (cards_at q (mover q)) c has) in
        obeys card.0 card.1 (suit-of m.suit card.0 card.2)

    -- the mover's place
    turn : mover q ≡ seat_after p.first (length q.trick)
    turn = ap (λ f. seat_after f (length q.trick)) now.first

    begun : 1 ≤ length q.trick
    begun = (let k : length q.trick ≡ length (m ∷ now.led.0) = ap length now.led.1 in omega (arith, k))

    apart-places : (i : ℕ) → i < 4 → i ≢ length q.trick → seat_code (seat_after p.first i) ≢ seat_code (mover q)
    apart-places i l differs = (let a = after-code p.first i in let b = after-code p.first (length q.trick) in let d = seat_code-lt p.first in let k = now.valid.short in let e : seat_code (mover q) ≡ seat_code (seat_after p.first (length q.trick)) = ap seat_code turn in λ z. omega (arith, a, b, d, z, k, e, l, differs))

    followed-on : (i : ℕ) → i < length q.trick + 1 → HasFollowed m.suit p (after q c) (seat_after p.first i)
    followed-on i l = elim (eqb_tells i (length q.trick)) [
      | inl r ↦ subst (HasFollowed m.suit p (after q c)) (turn ∙ ap (seat_after p.first) (sym r.1)) (
          let k = count-own (is_of m.suit) q c now.valid has in
          let f = now.fewer (mover q) (is_of m.suit) in
          elim (cases_lt 0 (count_of m.suit (cards_at q (mover q)))) [
            | inl some ↦ inr (let one : flag_of (is_of m.suit c) ≡ 1 = ap flag_of (of-suit' m.suit c (suited some)) in omega (arith, k, f, one))
            | inr no_card ↦ inl (omega (arith, k, no_card))
          ])
      | inr r ↦ subst (λ cards. (count_of m.suit cards ≡ 0) ⊎ (count_of m.suit cards + 1 ≤ count_of m.suit (cards_at p (seat_after p.first i)))) (sym (hand-others q c (seat_after p.first i) (apart-places i (let k = now.valid.short in omega (arith, l, k)) r.1)))
          (now.followed i (let d = r.1 in omega (arith, l, d)))
    ]

    -- the card is one of the mover's
    own : has_card (cards_at p (mover q)) c ≡ true
    own = now.part (mover q) c (own-card q c has)

    played-on : (i : ℕ) (d : PlayingCard) → i < length (q.trick ++ c ∷ []) → has_card (cards_at p (seat_after p.first i)) (get_or (q.trick ++ c ∷ []) i d) ≡ true
    played-on i d l = elim (place-push q.trick c d i l) [
      | inl r ↦ ap (has_card (cards_at p (seat_after p.first i))) r.1 ∙ now.played i d r.0
      | inr r ↦ ap₂ (λ j x. has_card (cards_at p (seat_after p.first j)) x) r.0 r.1 ∙ ap (λ x. has_card (cards_at p x) c) (sym turn) ∙ own
    ]

    spent-on : (i : ℕ) (d : PlayingCard) → i < length (q.trick ++ c ∷ []) → seat_after p.first i ≡ h → spend (get_or (q.trick ++ c ∷ []) i d) ≡ true
    spent-on i d l at = elim (place-push q.trick c d i l) [
      | inl r ↦ ap spend r.1 ∙ now.spent i d r.0 at
      | inr r ↦ ap spend r.1 ∙ (free (turn ∙ ap (seat_after p.first) (sym r.0) ∙ at)).1
    ]

    paid-on : length (cards_at (after q c) p.first) + 1 ≡ tricks_left p
    paid-on = ap (λ cards. length cards + 1) (hand-others q c p.first (λ e. apart-places 0 (omega arith) (let k = begun in λ z. omega (arith, z, k)) (e))) ∙ now.paid

    -- where the trick goes on
    under-on : completes q ≡ false → IsUnder (after q c)
    under-on e =
        let pushed : (after q c).trick ≡ q.trick ++ c ∷ [] = (trick-after q c e).0 in
        let long : length (q.trick ++ c ∷ []) ≡ length q.trick + 1 = length-append q.trick (c ∷ []) in
        let size : length (after q c).trick ≡ length (q.trick ++ c ∷ []) = ap length pushed in
        record {
          valid = (legal-leads q c now.valid has).valid;
          same = strain-after q c ∙ now.same;
          first = (trick-after q c e).1 ∙ now.first;
          led = (now.led.0 ++ c ∷ [], pushed ∙ ap (λ trick. trick ++ c ∷ []) now.led.1);
          part = part-on;
          keeps = keeps-on;
          still = λ i l k. hand-others q c (seat_after p.first i) (apart-places i k (omega (arith, l, long, size))) ∙ now.still i (omega (arith, l, long, size)) k;
          fewer = fewer-on;
          followed = λ i l. followed-on i (omega (arith, l, long, size));
          played = λ i d l. ap (λ trick. has_card (cards_at p (seat_after p.first i)) (get_or trick i d)) pushed ∙ played-on i d (omega (arith, l, size));
          spent = λ i d l at. ap (λ trick. spend (get_or trick i d)) pushed ∙ spent-on i d (omega (arith, l, size)) at;
          paid = paid-on;
        }

    -- where it is over
    done-on : completes q ≡ true → IsDone q c
    done-on full = record {
      valid = board;
      same = strain-after q c ∙ now.same;
      start = closed.0;
      part = part-on;
      keeps = keeps-on;
      fewer = fewer-on;
      followed = λ x. (let i = place-of p.first x in subst (HasFollowed m.suit p (after q c)) (sym i.2) (followed-on i.0 (let l = i.1 in let k = three in omega (arith, l, k))));
      size = (let many = hand-left (after q c) board closed.0 p.first in let paid = paid-on in omega (arith, many, paid));
      points = λ on. ap₂ (λ a b. flag_of (a && b)) full (ap (is_side s) (sym closed.1) ∙ on);
      best = get_or trick w c;
      best_own = ap (λ x. has_card (cards_at p x) (get_or trick w c)) leader ∙ played-on w c wins.within;
      best_suit = wins.suit;
      spends = (get_or trick (place-of p.first h).0 c, spent-on (place-of p.first h).0 c at_h (sym (place-of p.first h).2), λ suit. wins.high (get_or trick (place-of p.first h).0 c) (has-at trick (place-of p.first h).0 c at_h) suit);
    }
      where
        closed : ((after q c).trick ≡ []) × ((after q c).first ≡ winner_of (trick_with q c) q.first q.strain)
        closed = trick-closed q c full

        board : IsBoard (after q c)
        board = (legal-leads q c now.valid has).valid

        trick : List PlayingCard
        trick = q.trick ++ c ∷ []

        three : length q.trick ≡ 3
        three = eqb-true (length q.trick) 3 full

        four : length trick ≡ 4
        four = (let l = length-append q.trick (c ∷ []) in let k = three in omega (arith, l, k))

        at_h : (place-of p.first h).0 < length trick
        at_h = (let l = (place-of p.first h).1 in let k = four in omega (arith, l, k))

        whole : trick ≡ m ∷ (now.led.0 ++ c ∷ [])
        whole = ap (λ l. l ++ c ∷ []) now.led.1

        real : (x : PlayingCard) → has_card trick x ≡ true → IsRank x.rank
        real x there = real-trick q c now.valid has x there

        no-trump : (x : PlayingCard) → has_card trick x ≡ true → is_trump q.strain x ≡ false
        no-trump x there =
            let at = at-place trick x c there in
            ap (λ y. is_trump q.strain y) (sym at.2) ∙ ap (λ z. is_trump z (get_or trick at.0 c)) now.same ∙ none (seat_after p.first at.0) (get_or trick at.0 c) (played-on at.0 c at.1)

        w : ℕ
        w = winning_place q.strain trick

        wins : IsHighest trick m.suit w c
        wins = subst (λ l. IsHighest l m.suit (winning_place q.strain l) c) (sym whole) (suit-wins q.strain m (now.led.0 ++ c ∷ []) c (λ x there. real x (ap (λ l. has_card l x) whole ∙ there)) (λ x there. no-trump x (ap (λ l. has_card l x) whole ∙ there)))

        leader : (after q c).first ≡ seat_after p.first w
        leader = closed.1 ∙ ap (λ f. seat_after f w) now.first

  -- The trick to its end: h has a card to play whenever it is to, and of each end of the trick its side takes so many.
  pub trick-on : (b : ℕ) → ((q : Board) → IsUnder q → mover q ≡ h → (c : PlayingCard) × IsLegal q c × (keep c ≡ false) × (spend c ≡ true)) → is_side s h ≡ true → ((q : Board) (c : PlayingCard) → IsDone q c → b ≤ won_with s q c)
      → (j : ℕ) (q : Board) → length q.trick + j ≡ 4 → IsUnder q → b ≤ won s q
  trick-on b pick ours ends zero q size now = absurd (let k = now.valid.short in omega (arith, k, size))
  trick-on b pick ours ends (suc j) q size now = elim (same-or (mover q) h) [
    | inl e ↦ (
        let c = pick q now e in
        let enough = leaves c.0 c.1 (λ on. (c.2, c.3)) (completes q) refl (λ z n k. trick-on b pick ours ends j z n k) in
        let reach : won_with s q c.0 ≤ won s q = can s q c.0 now.valid (ap (is_side s) e ∙ ours) c.1 in
        omega (arith, enough, reach))
    | inr apart ↦ whoever s q b now.valid (some-left q now.valid (let k : length q.trick ≡ length (m ∷ now.led.0) = ap length now.led.1 in omega (arith, k)))
        (λ c has. leaves c has (λ on. absurd (apart (ap seat_code on))) (completes q) refl (λ z n k. trick-on b pick ours ends j z n k))
  ]
    where
      leaves : (c : PlayingCard) → IsLegal q c → (mover q ≡ h → (keep c ≡ false) × (spend c ≡ true)) → (x : Bool) → completes q ≡ x → ((z : Board) → length z.trick + j ≡ 4 → IsUnder z → b ≤ won s z) → b ≤ won_with s q c
      leaves c has free false e ih =
          let long : length (q.trick ++ c ∷ []) ≡ length q.trick + 1 = length-append q.trick (c ∷ []) in
          let on : length (after q c).trick ≡ length (q.trick ++ c ∷ []) = ap length (trick-after q c e).0 in
          let later : b ≤ won s (after q c) = ih (after q c) (omega (arith, long, on, size)) (under-on q c now has free e) in
          omega (arith, later)
      leaves c has free true e ih = ends q c (done-on q c now has free e)

  -- a lead by another hand than h begins it
  pub lead-on : (valid : IsBoard p) → p.trick ≡ [] → seat_code p.first ≢ seat_code h → IsLegal p m → ((c : PlayingCard) → keep c ≡ true → has_card (cards_at p h) c ≡ true) → IsUnder (after p m) × (length (after p m).trick ≡ 1)
  lead-on valid start away has keeps = (
    record {
      valid = (legal-leads p m valid has).valid;
      same = strain-after p m;
      first = (trick-after p m opens).1;
      led = ([], pushed);
      part = λ x d k. was-in p m valid x d k;
      keeps = λ d k. ap (λ cards. has_card cards d) (others h (λ e. away (sym e))) ∙ keeps d k;
      still = λ i l k. others (seat_after p.first i) (let a = after-code p.first i in let b = seat_code-lt p.first in let z = one in λ e. omega (arith, a, b, z, e, l, k));
      fewer = λ x test. elim (same-or x p.first) [
        | inl e ↦ subst (λ y. count test (cards_at (after p m) y) ≤ count test (cards_at p y)) (sym e) (let l = lost test in omega (arith, l))
        | inr apart ↦ (let f : count test (cards_at (after p m) x) ≡ count test (cards_at p x) = ap (count test) (others x apart) in omega (arith, f))
      ];
      followed = λ i l. subst (λ n. HasFollowed m.suit p (after p m) (seat_after p.first n)) (let k = one in let z : 0 ≡ i = omega (arith, l, k) in z)
          ((inr (let l = lost (is_of m.suit) in let f : flag_of (is_of m.suit m) ≡ 1 = ap flag_of (of-suit' m.suit m refl) in omega (arith, l, f))));
      played = λ i d l. (let k = one in let z : 0 ≡ i = omega (arith, l, k) in
          subst (λ n. has_card (cards_at p (seat_after p.first n)) (get_or (after p m).trick n d) ≡ true) z (ap (λ trick. has_card (cards_at p p.first) (get_or trick 0 d)) pushed ∙ mine));
      spent = λ i d l at. absurd (let k = one in let z : i ≡ 0 = omega (arith, l, k) in away (ap seat_code (ap (seat_after p.first) (sym z) ∙ at)));
      paid = (
          let l = lost (λ c. true) in
          let a = ap length (filter-true (cards_at (after p m) p.first)) in
          let b = ap length (filter-true (cards_at p p.first)) in
          let n = hand-left p valid start p.first in
          omega (arith, l, a, b, n));
    },
    one,
  )
    where
      opens : completes p ≡ false
      opens = ap (λ trick. length trick == 3) start

      at : mover p ≡ p.first
      at = ap (λ trick. seat_after p.first (length trick)) start

      pushed : (after p m).trick ≡ m ∷ []
      pushed = (trick-after p m opens).0 ∙ ap (λ trick. trick ++ m ∷ []) start

      one : length (after p m).trick ≡ 1
      one = ap length pushed

      mine : has_card (cards_at p p.first) m ≡ true
      mine = ap (λ x. has_card (cards_at p x) m) (sym at) ∙ own-card p m has

      lost : (test : PlayingCard → Bool) → count test (cards_at (after p m) p.first) + flag_of (test m) ≡ count test (cards_at p p.first)
      lost test = subst (λ x. count test (cards_at (after p m) x) + flag_of (test m) ≡ count test (cards_at p x)) at (count-own test p m valid has)

      others : (x : Seat) → seat_code x ≢ seat_code p.first → cards_at (after p m) x ≡ cards_at p x
      others x apart = hand-others p m x (λ z. apart (z ∙ ap seat_code at))
