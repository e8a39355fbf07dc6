-- the table of points tells each contract's
use Rattle.std.proofs.Common.{◌≡◌, ℕ, zero, suc, ◌+◌, ◌*◌, ◌<◌, ◌≤◌, Bool, true, false, List, [], slice_index_or, refl, ap, sym, subst, ◌∙◌, inl, inr, ℤ, pos, negsuc, ◌≤ℤ◌, arith}
use Rattle.std.specs.Prelude.{◌&&◌, int_le}
use Rattle.std.specs.Ordering.{int_eq}
use Rattle.std.proofs.lemmas.Bool.Decides.{eqb_tells}
use Rattle.std.proofs.lemmas.Int.{ints}
use Rattle.dd_cards.specs.declared.seat.Seat.{Seat}
use Rattle.dd_cards.specs.declared.seat.Seat.TheVariants.{North, East, South, West}
use Rattle.dd_cards.specs.declared.suit.Suit.TheVariants.{Spades, Hearts, Diamonds, Clubs}
use Rattle.dd_cards.specs.declared.strain.Strain.{Strain}
use Rattle.dd_cards.specs.declared.strain.Strain.TheVariants.{Trump, Notrump}
use Rattle.dd_cards.specs.Seats.{seat_code}
use Rattle.dd_cards.specs.Sides.{side_of}
use Rattle.dd_cards.specs.Strains.{strain_code}
use Rattle.dd_cards.proofs.CallerLemmas.{and-left, and-right}
use Rattle.dd_score.specs.declared.vulnerable.Vulnerable.{Vulnerable}
use Rattle.dd_score.specs.Bids.{bid_of}
use Rattle.dd_score.specs.Law77.{points, made_points}
use Rattle.dd_score.specs.PointRows.{doubled_if_failed, points_row, declarers_row, all_rows}
use Rattle.dd_score.specs.Tables.{tricks_of, IsTable}
use Rattle.dd_score.specs.Vulnerability.{is_vulnerable}
use Rattle.dd_score.specs.Worths.{as_north_souths, worth}
use Rattle.dd_score.proofs.TableLemmas.{table-bound}
use Rattle.dd_score.proofs.WorthLemmas.{worth-by_level}

-- what the table has
abbrev pub entry : Strain → Bool → ℕ → ℕ → ℤ
entry strain vulnerable tricks level = slice_index_or (points_row strain vulnerable tricks) level (pos 0)

-- it is right there, and within bounds
right_at : Strain → Bool → ℕ → ℕ → Bool
right_at strain vulnerable tricks level =
    int_eq (entry strain vulnerable tricks level) (points level strain (doubled_if_failed level tricks) vulnerable tricks)
    && (int_le (negsuc 7999) (entry strain vulnerable tricks level) && int_le (entry strain vulnerable tricks level) (pos 8000))

-- at each level up to one
right_levels : Strain → Bool → ℕ → ℕ → Bool
right_levels strain vulnerable tricks zero = true
right_levels strain vulnerable tricks (suc level) = right_at strain vulnerable tricks (suc level) && right_levels strain vulnerable tricks level

-- with fewer tricks than a number
right_below : Strain → Bool → ℕ → Bool
right_below strain vulnerable zero = true
right_below strain vulnerable (suc tricks) = right_levels strain vulnerable tricks 7 && right_below strain vulnerable tricks

right : (strain : Strain) (vulnerable : Bool) → right_below strain vulnerable 14 ≡ true
unfolding right_below right_levels right_at points_row points made_points
right (Trump Clubs) false = refl
right (Trump Clubs) true = refl
right (Trump Diamonds) false = refl
right (Trump Diamonds) true = refl
right (Trump Hearts) false = refl
right (Trump Hearts) true = refl
right (Trump Spades) false = refl
right (Trump Spades) true = refl
right Notrump false = refl
right Notrump true = refl

below : (strain : Strain) (vulnerable : Bool) (n tricks : ℕ) → tricks < n → right_below strain vulnerable n ≡ true → right_levels strain vulnerable tricks 7 ≡ true
unfolding right_below
below strain vulnerable zero tricks h all = absurd (omega arith)
below strain vulnerable (suc n) tricks h all = elim (eqb_tells tricks n) [
  | inl same ↦ ap (λ t. right_levels strain vulnerable t 7) same.1 ∙ and-left (right_levels strain vulnerable n 7) (right_below strain vulnerable n) all
  | inr other ↦ below strain vulnerable n tricks (omega (arith, other.1)) (and-right (right_levels strain vulnerable n 7) (right_below strain vulnerable n) all)
]

levels : (strain : Strain) (vulnerable : Bool) (tricks n level : ℕ) → 1 ≤ level → level ≤ n → right_levels strain vulnerable tricks n ≡ true
    → right_at strain vulnerable tricks level ≡ true
unfolding right_levels
levels strain vulnerable tricks zero level some most all = absurd (omega arith)
levels strain vulnerable tricks (suc n) level some most all = elim (eqb_tells level (suc n)) [
  | inl same ↦ ap (right_at strain vulnerable tricks) same.1 ∙ and-left (right_at strain vulnerable tricks (suc n)) (right_levels strain vulnerable tricks n) all
  | inr other ↦ levels strain vulnerable tricks n level some (omega (arith, other.1)) (and-right (right_at strain vulnerable tricks (suc n)) (right_levels strain vulnerable tricks n) all)
]

-- so each entry is the points
pub tells : (strain : Strain) (vulnerable : Bool) (tricks level : ℕ) → tricks ≤ 13 → 1 ≤ level → level ≤ 7
    → (entry strain vulnerable tricks level ≡ points level strain (doubled_if_failed level tricks) vulnerable tricks)
    × (negsuc 7999 ≤ℤ entry strain vulnerable tricks level) × (entry strain vulnerable tricks level ≤ℤ pos 8000)
unfolding right_at
tells strain vulnerable tricks level few some most =
    parts (entry strain vulnerable tricks level) _
    (levels strain vulnerable tricks 7 level some most (below strain vulnerable 14 tricks (omega arith) (right strain vulnerable)))
  where
    same : (x y : ℤ) → int_eq x y ≡ true → x ≡ y
    same x y h = grind (arith, ints)

    at_most : (x y : ℤ) → int_le x y ≡ true → x ≤ℤ y
    at_most x y h = grind (arith, ints)

    parts : (x y : ℤ) → (int_eq x y && (int_le (negsuc 7999) x && int_le x (pos 8000))) ≡ true → (x ≡ y) × (negsuc 7999 ≤ℤ x) × (x ≤ℤ pos 8000)
    parts x y h =
        let bounds : (int_le (negsuc 7999) x && int_le x (pos 8000)) ≡ true = and-right (int_eq x y) (int_le (negsuc 7999) x && int_le x (pos 8000)) h in (
          same x y (and-left (int_eq x y) (int_le (negsuc 7999) x && int_le x (pos 8000)) h),
          at_most (negsuc 7999) x (and-left (int_le (negsuc 7999) x) (int_le x (pos 8000)) bounds),
          at_most x (pos 8000) (and-right (int_le (negsuc 7999) x) (int_le x (pos 8000)) bounds),
        )

-- ---- among the rows of given results
-- a declarer's row in a strain
row-at : (table : List (List ℕ)) (vulnerable : Vulnerable) (strain : Strain) (seat : Seat)
    → slice_index_or (all_rows table vulnerable) (4 * strain_code strain + seat_code seat) [] ≡ declarers_row table vulnerable strain seat
unfolding all_rows
row-at table vulnerable (Trump Spades) North = refl
row-at table vulnerable (Trump Spades) East = refl
row-at table vulnerable (Trump Spades) South = refl
row-at table vulnerable (Trump Spades) West = refl
row-at table vulnerable (Trump Hearts) North = refl
row-at table vulnerable (Trump Hearts) East = refl
row-at table vulnerable (Trump Hearts) South = refl
row-at table vulnerable (Trump Hearts) West = refl
row-at table vulnerable (Trump Diamonds) North = refl
row-at table vulnerable (Trump Diamonds) East = refl
row-at table vulnerable (Trump Diamonds) South = refl
row-at table vulnerable (Trump Diamonds) West = refl
row-at table vulnerable (Trump Clubs) North = refl
row-at table vulnerable (Trump Clubs) East = refl
row-at table vulnerable (Trump Clubs) South = refl
row-at table vulnerable (Trump Clubs) West = refl
row-at table vulnerable Notrump North = refl
row-at table vulnerable Notrump East = refl
row-at table vulnerable Notrump South = refl
row-at table vulnerable Notrump West = refl

-- what is looked up there
abbrev looked : List (List ℤ) → ℕ → ℕ → ℕ → ℤ
looked rows strain seat level = slice_index_or (slice_index_or rows (4 * strain + seat) []) level (pos 0)

-- it is the worth for declarer's side
pub looked-worth : (table : List (List ℕ)) (vulnerable : Vulnerable) (rows : List (List ℤ)) (level : ℕ) (strain : Strain) (seat : Seat) (code place : ℕ)
    → rows ≡ all_rows table vulnerable → IsTable table → code ≡ strain_code strain → place ≡ seat_code seat → 1 ≤ level → level ≤ 7
    → (as_north_souths (side_of seat) (looked rows code place level) ≡ worth table vulnerable (bid_of level strain) seat)
    × (negsuc 7999 ≤ℤ looked rows code place level) × (looked rows code place level ≤ℤ pos 8000)
looked-worth table vulnerable rows level strain seat code place told valid c p some most =
    let at : looked rows code place level ≡ entry strain (is_vulnerable vulnerable (side_of seat)) (tricks_of table strain seat) level =
    rw (told, c, p, row-at table vulnerable strain seat) refl in
    let t = tells strain (is_vulnerable vulnerable (side_of seat)) (tricks_of table strain seat) level (table-bound table (strain_code strain) (seat_code seat) valid) some most in (
      ap (as_north_souths (side_of seat)) at ∙ worth-by_level table vulnerable level strain seat (entry strain (is_vulnerable vulnerable (side_of seat)) (tricks_of table strain seat) level) some t.0,
      subst (λ x. negsuc 7999 ≤ℤ x) (sym at) t.1,
      subst (λ x. x ≤ℤ pos 8000) (sym at) t.2,
    )
