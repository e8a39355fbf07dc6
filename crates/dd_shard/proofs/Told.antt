-- What a pair tells of a position that its cover covers holds of each position that this one covers.
use Rattle.std.proofs.Common.{◌≡◌, ℕ, suc, ◌+◌, ◌≤◌, sym, ap, ◌∙◌, subst, arith, List, [], ◌∷◌, ◌++◌, length, take, filter, min, inl, inr, Contains, Option, Some, None, IfSome, length-append}
use Rattle.std.specs.Prelude.{option_map}
use Rattle.std.proofs.lemmas.List.Elements.{filter-append, Contains-append_cases, Contains-append_left, Contains-append_right}
use Rattle.std.proofs.lemmas.List.{length-take, take_all}
use Rattle.lru.proofs.Splits.{Contains-tail, Contains-cons, Contains-middle, nil_ne_cut}
use Rattle.lru.proofs.CallerLemmas.{Contains-take}
use Rattle.dd_cards.specs.declared.seat.Seat.{Seat}
use Rattle.dd_cards.specs.declared.seat.Seat.TheVariants.{North, East, South, West}
use Rattle.dd_cards.specs.declared.suit.Suit.{Suit}
use Rattle.dd_cards.specs.PlayingCard.{PlayingCard}
use Rattle.dd_cards.specs.Cards.{is_of}
use Rattle.dd_cards.specs.Seats.{seat_after}
use Rattle.dd_play.specs.Board.{Board, IsBoard, cards_at}
use Rattle.dd_play.specs.Covers.{count_of}
use Rattle.dd_play.specs.Intervals.{Holds}
use Rattle.dd_play.specs.Value.{leaders_tricks}
use Rattle.dd_play.specs.declared.interval.Interval.{Interval}
use Rattle.dd_play.proofs.CallerLemmas.{turn-turn}
use Rattle.dd_rank.specs.Depths.{FourDepths, depth_in, all_cards, Covers, IsCoverAt}
use Rattle.dd_rank.proofs.CallerLemmas.{covers-chain}
use Rattle.dd_rank.specs.Strings.{ShapeOf}
use Rattle.dd_rank.specs.Cover.{CoverOf, IsSameCover}
use Rattle.dd_shard.specs.Entries.{most_pairs, Told, Pair, Entry, IsEntry, IsPair, Tells, cover_of, narrowed_pair, PutsFirst}
use Rattle.dd_shard.specs.Slots.{told_of}

-- a sum over the four seats, from any of them on
turned-sum : (f : Seat → ℕ) (s : Seat) → f s + f (seat_after s 1) + f (seat_after s 2) + f (seat_after s 3) ≡ f North + f East + f South + f West
turned-sum f North = omega arith
turned-sum f East = omega arith
turned-sum f South = omega arith
turned-sum f West = omega arith

-- .. and over the four seats turned by k places
all-turned : (f : Seat → ℕ) (k : ℕ) → f (seat_after North k) + f (seat_after East k) + f (seat_after South k) + f (seat_after West k) ≡ f North + f East + f South + f West
all-turned f k =
    let east : f (seat_after East k) ≡ f (seat_after (seat_after North k) 1) = ap f (turn-turn North 1 k) in
    let south : f (seat_after South k) ≡ f (seat_after (seat_after North k) 2) = ap f (turn-turn North 2 k) in
    let west : f (seat_after West k) ≡ f (seat_after (seat_after North k) 3) = ap f (turn-turn North 3 k) in
    let sum = turned-sum f (seat_after North k) in
    omega arith

-- the number of a suit's cards in two lists
count-append : (u : Suit) (xs ys : List PlayingCard) → count_of u (xs ++ ys) ≡ count_of u xs + count_of u ys
count-append u xs ys = ap length (filter-append (is_of u) xs ys) ∙ length-append (filter (is_of u) xs) (filter (is_of u) ys)

-- .. and in the four hands
count-all : (u : Suit) (p : Board) → count_of u (all_cards p) ≡ count_of u (cards_at p North) + count_of u (cards_at p East) + count_of u (cards_at p South) + count_of u (cards_at p West)
count-all u p =
    count-append u (cards_at p North ++ cards_at p East ++ cards_at p South) (cards_at p West)
    ∙ ap (λ n. n + count_of u (cards_at p West)) (
    count-append u (cards_at p North ++ cards_at p East) (cards_at p South)
    ∙ ap (λ n. n + count_of u (cards_at p South)) (count-append u (cards_at p North) (cards_at p East)))

-- a covered position has as many cards of each suit
same-count : (k : ℕ) (depths : Suit → ℕ) (p q : Board) → IsCoverAt k depths p q → (u : Suit) → count_of u (all_cards q) ≡ count_of u (all_cards p)
same-count k depths p q r u =
    let a = count-all u p in
    let b = count-all u q in
    let sum = all-turned (λ x. count_of u (cards_at q x)) k in
    let north = r.lengths North u in
    let east = r.lengths East u in
    let south = r.lengths South u in
    let west = r.lengths West u in
    omega arith

-- what is told is what some pair of the entry tells that covers p
pub record IsTold (p : Board) (e : Entry) (depths : FourDepths) (lo hi : ℕ) : Type 0 where
  pub pair : Pair
  pub of_entry : IsPair e.shape pair
  pub covers : Covers pair.board (depth_in pair.depths) p
  pub same_depths : depths ≡ pair.depths
  pub same_lo : lo ≡ pair.lo
  pub same_hi : hi ≡ pair.hi

tells-told : (p : Board) (e : Entry) (told : Told) → IsEntry e → Tells p e.pairs (Some told) → IsTold p e told.depths told.lo told.hi
tells-told p e told good tells = record {
  pair = tells.1;
  of_entry = good.each tells.1 (subst (λ l. Contains l tells.1) (sym tells.3) (Contains-middle tells.0 tells.1 tells.2));
  covers = tells.5;
  same_depths = ap (λ (t : Told). t.depths) tells.6;
  same_lo = ap (λ (t : Told). t.lo) tells.6;
  same_hi = ap (λ (t : Told). t.hi) tells.6;
}

-- it holds of each position that p covers at the depths
pub told-holds : (p : Board) (e : Entry) (r : Option (Interval × FourDepths)) → IsEntry e → Tells p e.pairs (option_map told_of r)
    → IfSome r (λ told. (q : Board) → IsBoard q → Covers p (depth_in told.1) q → Holds told.0 (leaders_tricks q))
told-holds p e None good tells = tt
told-holds p e (Some told) good tells = λ q board covers. (
    let t = tells-told p e (told_of told) good tells in
    let there : Covers p (depth_in t.pair.depths) q = subst (λ (d : FourDepths). Covers p (depth_in d) q) t.same_depths covers in
    let held = t.of_entry.sound q board (t.covers.0 + there.0, covers-chain (depth_in t.pair.depths) t.covers.0 there.0 t.pair.board p q t.covers.1 there.1) in
    let lo = t.same_lo in
    let hi = t.same_hi in
    (omega arith, omega arith))

-- its depths are within the cards left
pub told-within : (p : Board) (e : Entry) (r : Option (Interval × FourDepths)) → IsEntry e → Tells p e.pairs (option_map told_of r)
    → IfSome r (λ told. (u : Suit) → depth_in told.1 u ≤ count_of u (all_cards p))
told-within p e None good tells = tt
told-within p e (Some told) good tells = λ u. (
    let t = tells-told p e (told_of told) good tells in
    let depth : depth_in told.1 u ≡ depth_in t.pair.depths u = ap (λ (d : FourDepths). depth_in d u) t.same_depths in
    let most = t.covers.1.most u in
    let same = same-count t.covers.0 (depth_in t.pair.depths) t.pair.board p t.covers.1 u in
    omega arith)

-- a pair that holds the bounds of another with the same cover as well is still one of its shape
pub narrowed-pair : (shape : ShapeOf) (x y : Pair) → IsPair shape x → IsPair shape y → IsSameCover (cover_of y) (cover_of x) → IsPair shape (narrowed_pair x y)
narrowed-pair shape x y a b same = record {
  board = a.board;
  no_trick = a.no_trick;
  of_shape = a.of_shape;
  within = a.within;
  sound = λ q board covers. (
      let mine = a.sound q board covers in
      let there : Covers x.board (depth_in y.depths) q = subst (λ (d : FourDepths). Covers x.board (depth_in d) q) same.0 covers in
      let theirs = b.sound q board (same.1.0 + there.0, covers-chain (depth_in y.depths) same.1.0 there.0 y.board x.board q same.1.1 there.1) in
      (omega arith, omega arith));
}

-- the bounds of a pair with the same cover hold the value of the position itself
pub same-holds : (shape : ShapeOf) (x : Pair) (cover : CoverOf) → IsPair shape x → IsBoard cover.board → IsSameCover (cover_of x) cover → (x.lo ≤ leaders_tricks cover.board) × (leaders_tricks cover.board ≤ x.hi)
same-holds shape x cover a board same = a.sound cover.board board same.1

-- what is left of an entry of at most eight pairs of its shape, once such a pair goes first, is an entry
pub puts-entry : (shape : ShapeOf) (x : Pair) (old new : List Pair) → IsPair shape x → length old ≤ most_pairs → ((y : Pair) → Contains old y → IsPair shape y)
    → PutsFirst x old new → IsEntry (record { shape = shape; pairs = new })
puts-entry shape x old new a few each (inl on) =
    let y = on.1 in
    let was : length old ≡ length on.0 + length (y ∷ on.2) = ap length on.3 ∙ length-append on.0 (y ∷ on.2) in
    let is : length new ≡ suc (length on.0 + length on.2) = ap length on.6 ∙ ap suc (length-append on.0 on.2) in
    let there : IsPair shape y = each y (subst (λ l. Contains l y) (sym on.3) (Contains-middle on.0 y on.2)) in
    record {
      some = omega arith;
      few = omega arith;
      each = λ z c. elim (Contains-cons (narrowed_pair x y) (on.0 ++ on.2) z (subst (λ l. Contains l z) on.6 c)) [
        | inl first ↦ subst (IsPair shape) first (narrowed-pair shape x y a there on.5)
        | inr d ↦ elim (Contains-append_cases on.0 on.2 z d) [
          | inl f ↦ each z (subst (λ l. Contains l z) (sym on.3) (Contains-append_left on.0 (y ∷ on.2) z f))
          | inr b ↦ each z (subst (λ l. Contains l z) (sym on.3) (Contains-append_right on.0 (y ∷ on.2) z (Contains-tail y on.2 z b)))
        ]
      ];
    }
puts-entry shape x old new a few each (inr on) =
    let is : length new ≡ min most_pairs (length (x ∷ old)) = ap length on.1 ∙ length-take most_pairs (x ∷ old) in
    record {
      some = omega arith;
      few = omega arith;
      each = λ z c. elim (Contains-cons x old z (Contains-take most_pairs (x ∷ old) z (subst (λ l. Contains l z) on.1 c))) [
        | inl first ↦ subst (IsPair shape) first a
        | inr d ↦ each z d
      ];
    }

-- the first pair of a shape stands alone
pub puts-alone : (x : Pair) (old new : List Pair) → old ≡ [] → PutsFirst x old new → new ≡ x ∷ []
puts-alone x old new none (inl on) = absurd (nil_ne_cut on.0 on.1 on.2 (sym none ∙ on.3))
puts-alone x old new none (inr on) = on.1 ∙ ap (λ l. take most_pairs (x ∷ l)) none ∙ take_all most_pairs (x ∷ []) (omega arith)
