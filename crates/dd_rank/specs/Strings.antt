-- To be believed: the owner strings of a start of a trick: who holds the cards that are left, suit by suit, with the seats counted from the leader.
use Rattle.std.proofs.Common.{refl, eqb-true}
use Rattle.std.specs.Prelude.{◌≡◌, ◌&&◌, true, false, ℕ, ◌+◌, ◌-◌, ◌*◌, ◌/◌, ◌%◌, ◌^◌, bit_xor, bit_and, nat_eq, ◌==◌, Bool, List, [], ◌∷◌, map}
use Rattle.std.specs.Cmp.{IsEquivalence, IsPartialEquivalence, partial_equiv_from_equiv, and_equiv, on_equiv, nat_eq_equiv}
use Rattle.std.specs.Hash.{u64}
use Rattle.std.specs.Ordering.{on, eq_of_both}
use Rattle.dd_cards.specs.declared.seat.Seat.{Seat}
use Rattle.dd_cards.specs.declared.strain.Strain.{Strain}
use Rattle.dd_cards.specs.declared.suit.Suit.{Suit}
use Rattle.dd_cards.specs.declared.suit.Suit.TheVariants.{Spades, Hearts, Diamonds, Clubs}
use Rattle.dd_cards.specs.Seats.{seat_code, seat_after}
use Rattle.dd_cards.specs.Strains.{strain_code}
use Rattle.dd_play.specs.Board.{Board, cards_at}
use Rattle.dd_play.specs.Covers.{count_of}
use Rattle.dd_rank.specs.Owners.{owners}

-- how many places after the leader the seat comes, 0 to 3
abbrev pub places_after : Seat → Seat → ℕ
places_after leader seat = (4 + seat_code seat - seat_code leader) % 4

-- the number with these digits to a base, the first digit the lowest
abbrev pub number_of : ℕ → List ℕ → ℕ
number_of base [] = 0
number_of base (digit ∷ digits) = digit + base * number_of base digits

-- the holders of a suit's cards that are left, from the highest card down, each by its place after the leader
abbrev pub owner_places : Board → Suit → List ℕ
owner_places p u = map (places_after p.first) (owners p u)

-- these as one number to the base 4, the highest card's digit the lowest
unfoldable pub owners_number : Board → Suit → ℕ
owners_number p u = number_of 4 (owner_places p u)

-- how many cards of the suit the seat has that comes so many places after the leader
abbrev pub length_at : Board → Suit → ℕ → ℕ
length_at p u k = count_of u (cards_at p (seat_after p.first k))

-- the four lengths of a suit, four bits each, the leader's the lowest
abbrev pub suit_lengths : Board → Suit → ℕ
suit_lengths p u = number_of 16 (length_at p u 0 ∷ length_at p u 1 ∷ length_at p u 2 ∷ length_at p u 3 ∷ [])

-- the sixteen lengths, sixteen bits for each suit, the spades on top
unfoldable pub all_lengths : Board → ℕ
all_lengths p = number_of (2 ^ 16) (suit_lengths p Clubs ∷ suit_lengths p Diamonds ∷ suit_lengths p Hearts ∷ suit_lengths p Spades ∷ [])

-- strain, lengths and each suit's owners: all that tells a start of a trick from those that aren't alike
pub record Strings : Type 0 where
  pub strain : Strain
  pub lengths : ℕ
  pub spades : ℕ
  pub hearts : ℕ
  pub diamonds : ℕ
  pub clubs : ℕ

-- the owner strings of a start of a trick
abbrev pub strings_of : Board → Strings
strings_of p = record {
  strain = p.strain;
  lengths = all_lengths p;
  spades = owners_number p Spades;
  hearts = owners_number p Hearts;
  diamonds = owners_number p Diamonds;
  clubs = owners_number p Clubs;
}

-- the owners of a suit
abbrev pub string_in : Strings → Suit → ℕ
string_in s Spades = s.spades
string_in s Hearts = s.hearts
string_in s Diamonds = s.diamonds
string_in s Clubs = s.clubs

-- strain and lengths alone
pub record ShapeOf : Type 0 where
  pub strain : Strain
  pub lengths : ℕ

-- the shape of a start of a trick
abbrev pub shape_of : Board → ShapeOf
shape_of p = record { strain = p.strain; lengths = all_lengths p }

-- the shape that the strings tell
abbrev pub shape_in : Strings → ShapeOf
shape_in s = record { strain = s.strain; lengths = s.lengths }

-- one word hashed into a number below 2 ^ 64: times an odd number of 64 bits, and the upper half put over the lower
unfoldable pub mix : ℕ → ℕ → ℕ
mix number word = let product = bit_xor number word * 0x9E3779B97F4A7C15 % 2 ^ 64 in bit_xor product (product / 2 ^ 32)

-- a shape's hash, which spreads shapes over 64 bits
abbrev pub hash_of : ShapeOf → ℕ
hash_of s = mix (mix 0 (strain_code s.strain)) s.lengths

-- the hash of strings
abbrev pub hash_in : Strings → ℕ
hash_in s = mix (mix (hash_of (shape_in s)) (s.spades + 2 ^ 32 * s.hearts)) (s.diamonds + 2 ^ 32 * s.clubs)

-- a number of strings' outline: of the strain, the leader's lengths and the owners of the highest cards
abbrev pub outline_number_in : Strings → ℕ
outline_number_in s = mix (mix (strain_code s.strain) (bit_and s.lengths 0x000F000F000F000F))
    ((s.spades % 4 * 4 + s.hearts % 4) * 16 + (s.diamonds % 4 * 4 + s.clubs % 4))

-- are strain, lengths and owners the same?
abbrev pub same_strings : Strings → Strings → Bool
same_strings = eq_of_both (on (λ (s : Strings). strain_code s.strain) nat_eq) (eq_of_both (on (λ (s : Strings). s.lengths) nat_eq)
    (eq_of_both (on (λ (s : Strings). s.spades) nat_eq) (eq_of_both (on (λ (s : Strings). s.hearts) nat_eq)
    (eq_of_both (on (λ (s : Strings). s.diamonds) nat_eq) (on (λ (s : Strings). s.clubs) nat_eq)))))

-- are strain and lengths the same?
abbrev pub same_shape : ShapeOf → ShapeOf → Bool
same_shape = eq_of_both (on (λ (s : ShapeOf). strain_code s.strain) nat_eq) (on (λ (s : ShapeOf). s.lengths) nat_eq)

-- a test of a number is an equivalence
by-number : {K : Type 0} (part : K → ℕ) → IsEquivalence (on part nat_eq)
by-number part = on_equiv part nat_eq_equiv

-- the test of strings is an equivalence
pub same-strings : IsEquivalence same_strings
same-strings =
    and_equiv (by-number (λ s. strain_code s.strain)) (and_equiv (by-number (λ s. s.lengths)) (and_equiv (by-number (λ s. s.spades))
    (and_equiv (by-number (λ s. s.hearts)) (and_equiv (by-number (λ s. s.diamonds)) (by-number (λ s. s.clubs))))))

-- .. and so a partial one
pub same-strings-partial : IsPartialEquivalence same_strings
same-strings-partial = partial_equiv_from_equiv same-strings

-- the test of shapes is an equivalence
pub same-shape : IsEquivalence same_shape
same-shape = and_equiv (by-number (λ s. strain_code s.strain)) (by-number (λ s. s.lengths))

-- .. and so a partial one
pub same-shape-partial : IsPartialEquivalence same_shape
same-shape-partial = partial_equiv_from_equiv same-shape

-- two tests that pass together
pub both-pass : (a b : Bool) → (a && b) ≡ true → (a ≡ true) × (b ≡ true)
both-pass true b h = (refl, h)
both-pass false b h = absurd (cc)

-- shapes with the same parts have one hash, and so are fed alike to a hasher
pub fed-shape : (x y : ShapeOf) → same_shape x y ≡ true → u64 (hash_of x) ≡ u64 (hash_of y)
fed-shape x y h =
    let a = both-pass (strain_code x.strain == strain_code y.strain) (x.lengths == y.lengths) h in
    let strain : strain_code x.strain ≡ strain_code y.strain = eqb-true _ _ a.0 in
    let lengths : x.lengths ≡ y.lengths = eqb-true _ _ a.1 in
    rw (strain, lengths) refl

-- strings with the same parts have one hash, and so are fed alike to a hasher
pub fed-same : (x y : Strings) → same_strings x y ≡ true → u64 (hash_in x) ≡ u64 (hash_in y)
fed-same x y h =
    let a = both-pass (strain_code x.strain == strain_code y.strain) _ h in
    let b = both-pass (x.lengths == y.lengths) _ a.1 in
    let c = both-pass (x.spades == y.spades) _ b.1 in
    let d = both-pass (x.hearts == y.hearts) _ c.1 in
    let e = both-pass (x.diamonds == y.diamonds) (x.clubs == y.clubs) d.1 in
    let strain : strain_code x.strain ≡ strain_code y.strain = eqb-true _ _ a.0 in
    let lengths : x.lengths ≡ y.lengths = eqb-true _ _ b.0 in
    let spades : x.spades ≡ y.spades = eqb-true _ _ c.0 in
    let hearts : x.hearts ≡ y.hearts = eqb-true _ _ d.0 in
    let diamonds : x.diamonds ≡ y.diamonds = eqb-true _ _ e.0 in
    let clubs : x.clubs ≡ y.clubs = eqb-true _ _ e.1 in
    rw (strain, lengths, spades, hearts, diamonds, clubs) refl
