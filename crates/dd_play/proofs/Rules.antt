-- the four rules of one step of play, for either side
use Rattle.std.proofs.Common.{◌≡◌, ℕ, suc, ◌+◌, ◌-◌, ◌≤◌, Bool, true, false, refl, ap, ◌∙◌, arith, List, [], ◌∷◌, length, max, min}
use Rattle.std.specs.Prelude.{map, fold, filter, ◌&&◌}
use Rattle.dd_cards.specs.PlayingCard.{PlayingCard}
use Rattle.dd_cards.specs.Cards.{is_of, has_card, same_card}
use Rattle.dd_cards.proofs.CallerLemmas.{same_card-eq}
use Rattle.dd_cards.specs.Sides.{side_of, same_side, is_side}
use Rattle.dd_cards.specs.declared.side.Side.{Side}
use Rattle.dd_cards.specs.declared.side.Side.TheVariants.{NorthSouth, EastWest}
use Rattle.dd_play.specs.Board.{Board, IsBoard, cards_at, mover, tricks_left}
use Rattle.dd_play.specs.Tricks.{or_else, winner_of}
use Rattle.dd_play.specs.Play.{legal, following, completes, trick_with, after}
use Rattle.dd_play.specs.Value.{better, best, gain, ns, ns_with}
use Rattle.dd_play.proofs.Values.{ns-legal}
use Rattle.dd_play.proofs.Boards.{Follows, legal-leads, has-first, in-rest, best-le, ns-le, flag_of}
use Rattle.dd_play.specs.Won.{won, trick_for}

-- ---- the best of some numbers

-- the greatest of numbers, from a first one on, is at least that one
fold-max-from : (x : ℕ) (cards : List PlayingCard) (f : PlayingCard → ℕ) → x ≤ fold (better NorthSouth) x (map f cards)
fold-max-from x [] f = omega arith
fold-max-from x (c ∷ cards) f = let ih = fold-max-from (max x (f c)) cards f in omega (arith, ih)

-- the least of numbers, from a first one on, is at most that one
fold-min-from : (x : ℕ) (cards : List PlayingCard) (f : PlayingCard → ℕ) → fold (better EastWest) x (map f cards) ≤ x
fold-min-from x [] f = omega arith
fold-min-from x (c ∷ cards) f = let ih = fold-min-from (min x (f c)) cards f in omega (arith, ih)

-- the greatest is at least each of them
fold-max-in : (x : ℕ) (cards : List PlayingCard) (f : PlayingCard → ℕ) (c : PlayingCard) → has_card cards c ≡ true → f c ≤ fold (better NorthSouth) x (map f cards)
fold-max-in x [] f c has = absurd (cc)
fold-max-in x (d ∷ cards) f c has = go (same_card d c) refl (λ h. fold-max-in (max x (f d)) cards f c h)
  where
    go : (b : Bool) → same_card d c ≡ b → (has_card cards c ≡ true → f c ≤ fold (better NorthSouth) (max x (f d)) (map f cards)) → f c ≤ fold (better NorthSouth) (max x (f d)) (map f cards)
    go true e ih = let from = fold-max-from (max x (f d)) cards f in let same : f d ≡ f c = ap f (same_card-eq d c e) in omega (arith, from, same)
    go false e ih = ih (rw e at has)

-- the least is at most each of them
fold-min-in : (x : ℕ) (cards : List PlayingCard) (f : PlayingCard → ℕ) (c : PlayingCard) → has_card cards c ≡ true → fold (better EastWest) x (map f cards) ≤ f c
fold-min-in x [] f c has = absurd (cc)
fold-min-in x (d ∷ cards) f c has = go (same_card d c) refl (λ h. fold-min-in (min x (f d)) cards f c h)
  where
    go : (b : Bool) → same_card d c ≡ b → (has_card cards c ≡ true → fold (better EastWest) (min x (f d)) (map f cards) ≤ f c) → fold (better EastWest) (min x (f d)) (map f cards) ≤ f c
    go true e ih = let from = fold-min-from (min x (f d)) cards f in let same : f d ≡ f c = ap f (same_card-eq d c e) in omega (arith, from, same)
    go false e ih = ih (rw e at has)

-- the best for the side that plays for the greatest is at least the number of each card
best-in-max : (cards : List PlayingCard) (f : PlayingCard → ℕ) (c : PlayingCard) → has_card cards c ≡ true → f c ≤ best NorthSouth (map f cards)
best-in-max [] f c has = absurd (cc)
best-in-max (d ∷ cards) f c has = go (same_card d c) refl
  where
    go : (b : Bool) → same_card d c ≡ b → f c ≤ fold (better NorthSouth) (f d) (map f cards)
    go true e = let from = fold-max-from (f d) cards f in let same : f d ≡ f c = ap f (same_card-eq d c e) in omega (arith, from, same)
    go false e = fold-max-in (f d) cards f c (rw e at has)

-- the best for the side that plays for the least is at most the number of each card
best-in-min : (cards : List PlayingCard) (f : PlayingCard → ℕ) (c : PlayingCard) → has_card cards c ≡ true → best EastWest (map f cards) ≤ f c
best-in-min [] f c has = absurd (cc)
best-in-min (d ∷ cards) f c has = go (same_card d c) refl
  where
    go : (b : Bool) → same_card d c ≡ b → fold (better EastWest) (f d) (map f cards) ≤ f c
    go true e = let from = fold-min-from (f d) cards f in let same : f d ≡ f c = ap f (same_card-eq d c e) in omega (arith, from, same)
    go false e = fold-min-in (f d) cards f c (rw e at has)

-- a bound below each number is below their least
fold-min-over : (b x : ℕ) (cards : List PlayingCard) (f : PlayingCard → ℕ) → b ≤ x → ((c : PlayingCard) → has_card cards c ≡ true → b ≤ f c) → b ≤ fold (better EastWest) x (map f cards)
fold-min-over b x [] f h each = h
fold-min-over b x (c ∷ cards) f h each = fold-min-over b (min x (f c)) cards f (let k = each c (has-first c cards) in omega arith) (λ d has. each d (in-rest c d cards has))

-- a bound below the number of each card is below their least
best-over-min : (b : ℕ) (cards : List PlayingCard) (f : PlayingCard → ℕ) (d : PlayingCard) → has_card cards d ≡ true → ((c : PlayingCard) → has_card cards c ≡ true → b ≤ f c) → b ≤ best EastWest (map f cards)
best-over-min b [] f d some each = absurd (cc)
best-over-min b (c ∷ cards) f d some each = fold-min-over b (f c) cards f (each c (has-first c cards)) (λ d has. each d (in-rest c d cards has))

-- a bound above the number of each card is above their greatest
best-under-max : (b : ℕ) (cards : List PlayingCard) (f : PlayingCard → ℕ) → ((c : PlayingCard) → has_card cards c ≡ true → f c ≤ b) → best NorthSouth (map f cards) ≤ b
best-under-max b cards f each = best-le NorthSouth b cards f each

-- ---- what one card is worth to each side

-- a trick that is completed is won by one side and not by the other
trick-sum : (a : Bool) (side : Side) → flag_of (a && same_side side EastWest) + flag_of (a && same_side side NorthSouth) ≡ flag_of a
trick-sum true NorthSouth = omega arith
trick-sum true EastWest = omega arith
trick-sum false side = omega arith

-- what the side takes when c is played
abbrev pub won_with : Side → Board → PlayingCard → ℕ
won_with side p c = trick_for side p c + won side (after p c)

-- what North and South take when a card is played
pub won-north-south : (p : Board) (c : PlayingCard) → won_with NorthSouth p c ≡ ns_with p c
won-north-south p c = refl

-- what the one side takes when a card is played, the other does not
pub won-east-west : (p : Board) (c : PlayingCard) → IsBoard p → has_card (legal p) c ≡ true → (won_with EastWest p c + ns_with p c ≡ tricks_left p)
won-east-west p c valid has =
    let q : Follows p (after p c) = legal-leads p c valid has in
    let tricks : tricks_left (after p c) + flag_of (completes p) ≡ tricks_left p = q.tricks in
    let most : ns (after p c) ≤ tricks_left (after p c) = ns-le (after p c) q.valid in
    let e : trick_for EastWest p c + gain p c ≡ flag_of (completes p) = trick-sum (completes p) (side_of (winner_of (trick_with p c) p.first p.strain)) in
    omega (arith, tricks, most, e)

-- where the side is to play, each legal card is within its reach
pub can : (side : Side) (p : Board) (c : PlayingCard) → IsBoard p → is_side side (mover p) ≡ true → has_card (legal p) c ≡ true → won_with side p c ≤ won side p
can side p c valid turn has = go side (side_of (mover p)) refl turn
  where
    go : (side b : Side) → side_of (mover p) ≡ b → same_side b side ≡ true → won_with side p c ≤ won side p
    go NorthSouth NorthSouth e t =
        let s : ns p ≡ best NorthSouth (map (ns_with p) (legal p)) = ns-legal p valid ∙ ap (λ b. best b (map (ns_with p) (legal p))) e in
        let k : ns_with p c ≤ best NorthSouth (map (ns_with p) (legal p)) = best-in-max (legal p) (ns_with p) c has in
        let w = won-north-south p c in
        omega (arith, s, k, w)
    go EastWest EastWest e t =
        let s : ns p ≡ best EastWest (map (ns_with p) (legal p)) = ns-legal p valid ∙ ap (λ b. best b (map (ns_with p) (legal p))) e in
        let k : best EastWest (map (ns_with p) (legal p)) ≤ ns_with p c = best-in-min (legal p) (ns_with p) c has in
        let w = won-east-west p c valid has in
        omega (arith, s, k, w)
    go NorthSouth EastWest e t = absurd (cc)
    go EastWest NorthSouth e t = absurd (cc)

-- where the other side is to play, no legal card takes the side lower
pub bears : (side : Side) (p : Board) (c : PlayingCard) → IsBoard p → is_side side (mover p) ≡ false → has_card (legal p) c ≡ true → won side p ≤ won_with side p c
bears side p c valid turn has = go side (side_of (mover p)) refl turn
  where
    go : (side b : Side) → side_of (mover p) ≡ b → same_side b side ≡ false → won side p ≤ won_with side p c
    go NorthSouth NorthSouth e t = absurd (cc)
    go EastWest EastWest e t = absurd (cc)
    go NorthSouth EastWest e t =
        let s : ns p ≡ best EastWest (map (ns_with p) (legal p)) = ns-legal p valid ∙ ap (λ b. best b (map (ns_with p) (legal p))) e in
        let k : best EastWest (map (ns_with p) (legal p)) ≤ ns_with p c = best-in-min (legal p) (ns_with p) c has in
        let w = won-north-south p c in
        omega (arith, s, k, w)
    go EastWest NorthSouth e t =
        let s : ns p ≡ best NorthSouth (map (ns_with p) (legal p)) = ns-legal p valid ∙ ap (λ b. best b (map (ns_with p) (legal p))) e in
        let k : ns_with p c ≤ best NorthSouth (map (ns_with p) (legal p)) = best-in-max (legal p) (ns_with p) c has in
        let w = won-east-west p c valid has in
        omega (arith, s, k, w)

-- the side to play takes no more than its best card
pub most : (side : Side) (p : Board) (b : ℕ) → IsBoard p → is_side side (mover p) ≡ true → (d : PlayingCard) → has_card (legal p) d ≡ true
    → ((c : PlayingCard) → has_card (legal p) c ≡ true → won_with side p c ≤ b) → won side p ≤ b
most side p b valid turn d some each = go side (side_of (mover p)) refl turn each
  where
    go : (side x : Side) → side_of (mover p) ≡ x → same_side x side ≡ true → ((c : PlayingCard) → has_card (legal p) c ≡ true → won_with side p c ≤ b) → won side p ≤ b
    go NorthSouth NorthSouth e t each =
        let s : ns p ≡ best NorthSouth (map (ns_with p) (legal p)) = ns-legal p valid ∙ ap (λ b. best b (map (ns_with p) (legal p))) e in
        let k : best NorthSouth (map (ns_with p) (legal p)) ≤ b = best-under-max b (legal p) (ns_with p) (λ c has. (let w = won-north-south p c in let h = each c has in omega (arith, w, h))) in
        omega (arith, s, k)
    go EastWest EastWest e t each =
        let s : ns p ≡ best EastWest (map (ns_with p) (legal p)) = ns-legal p valid ∙ ap (λ b. best b (map (ns_with p) (legal p))) e in
        let k : tricks_left p - b ≤ best EastWest (map (ns_with p) (legal p)) = best-over-min (tricks_left p - b) (legal p) (ns_with p) d some (λ c has. (let w = won-east-west p c valid has in let h = each c has in omega (arith, w, h))) in
        omega (arith, s, k)
    go NorthSouth EastWest e t each = absurd (cc)
    go EastWest NorthSouth e t each = absurd (cc)

-- against the other side it takes at least what each legal card leaves it
pub least : (side : Side) (p : Board) (b : ℕ) → IsBoard p → is_side side (mover p) ≡ false → (d : PlayingCard) → has_card (legal p) d ≡ true
    → ((c : PlayingCard) → has_card (legal p) c ≡ true → b ≤ won_with side p c) → b ≤ won side p
least side p b valid turn d some each = go side (side_of (mover p)) refl turn each
  where
    go : (side x : Side) → side_of (mover p) ≡ x → same_side x side ≡ false → ((c : PlayingCard) → has_card (legal p) c ≡ true → b ≤ won_with side p c) → b ≤ won side p
    go NorthSouth NorthSouth e t each = absurd (cc)
    go EastWest EastWest e t each = absurd (cc)
    go NorthSouth EastWest e t each =
        let s : ns p ≡ best EastWest (map (ns_with p) (legal p)) = ns-legal p valid ∙ ap (λ b. best b (map (ns_with p) (legal p))) e in
        let k : b ≤ best EastWest (map (ns_with p) (legal p)) = best-over-min b (legal p) (ns_with p) d some (λ c has. (let w = won-north-south p c in let h = each c has in omega (arith, w, h))) in
        omega (arith, s, k)
    go EastWest NorthSouth e t each =
        let s : ns p ≡ best NorthSouth (map (ns_with p) (legal p)) = ns-legal p valid ∙ ap (λ b. best b (map (ns_with p) (legal p))) e in
        let few : b ≤ tricks_left p = (let h = each d some in let w = won-east-west p d valid some in omega (arith, h, w)) in
        let k : best NorthSouth (map (ns_with p) (legal p)) ≤ tricks_left p - b = best-under-max (tricks_left p - b) (legal p) (ns_with p) (λ c has. (let w = won-east-west p c valid has in let h = each c has in omega (arith, w, h))) in
        omega (arith, s, k, few)

-- with no legal card no trick is left
pub no-legal : (p : Board) → legal p ≡ [] → tricks_left p ≡ 0
no-legal p e = hand p.trick (cards_at p (mover p)) e
  where
    hand : (trick cards : List PlayingCard) → following trick cards ≡ [] → length cards ≡ 0
    hand trick [] h = refl
    hand [] (c ∷ cards) h = ap length h
    hand (led ∷ rest) (c ∷ cards) h = absurd (empty (filter (is_of led.suit) (c ∷ cards)) c cards h)
      where
        empty : (same : List PlayingCard) (c : PlayingCard) (cards : List PlayingCard) → or_else same (c ∷ cards) ≡ [] → ⊥
        empty [] c cards h = (let k : suc (length cards) ≡ 0 = ap length h in omega (arith, k))
        empty (d ∷ same) c cards h = (let k : suc (length same) ≡ 0 = ap length h in omega (arith, k))

-- with no card to play nothing is won
pub none : (side : Side) (p : Board) → IsBoard p → legal p ≡ [] → won side p ≡ 0
none side p valid e = go side (ns-le p valid) (no-legal p e)
  where
    go : (side : Side) → ns p ≤ tricks_left p → tricks_left p ≡ 0 → won side p ≡ 0
    go NorthSouth h k = omega (arith, h, k)
    go EastWest h k = omega (arith, h, k)
