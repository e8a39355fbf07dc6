-- Positions are alike exactly where their owner strings are the same: full depths cover exactly the alike positions.
use Rattle.std.proofs.Common.{◌≡◌, ℕ, ◌%◌, ◌^◌, ◌≤◌, ◌<◌, true, false, refl, sym, ap, ◌∙◌, arith, [], length, eqb-true, eq-eqb}
use Rattle.std.specs.Prelude.{◌↔◌, ◌&&◌, ◌==◌, nat_lt, filter}
use Rattle.std.proofs.lemmas.Bool.{lt-ltb, ltb-true}
use Rattle.std.proofs.lemmas.Bool.Decides.{nat_tests}
use Rattle.dd_cards.specs.declared.strain.Strain.{Strain}
use Rattle.dd_cards.specs.declared.suit.Suit.{Suit}
use Rattle.dd_cards.specs.declared.suit.Suit.TheVariants.{Spades, Hearts, Diamonds, Clubs}
use Rattle.dd_cards.specs.PlayingCard.{PlayingCard}
use Rattle.dd_cards.specs.Cards.{is_of}
use Rattle.dd_cards.specs.Strains.{strain_code}
use Rattle.dd_cards.proofs.CallerLemmas.{strain_code-injective}
use Rattle.dd_cards.specs.Sides.{side_of}
use Rattle.dd_play.specs.Board.{Board, IsBoard}
use Rattle.dd_play.specs.Covers.{IsOver, any_card, count_of}
use Rattle.dd_play.specs.Reach.{IsStrict}
use Rattle.dd_play.proofs.CallerLemmas.{card-real, cover-fewer, strict-fewer}
use Rattle.dd_rank.specs.Alike.{AreAlike}
use Rattle.dd_rank.specs.Depths.{all_cards, Covers}
use Rattle.dd_rank.specs.Strings.{owner_places, owners_number, Strings, strings_of, ShapeOf, same_strings, same_shape, both-pass}
use Rattle.dd_rank.proofs.Agreed.{covers-agree, agree-covers}
use Rattle.dd_rank.proofs.AlikeLead.{alike-cover, met-start}
use Rattle.dd_rank.proofs.Covered.{all-in}
use Rattle.dd_rank.proofs.Digits.{whole-number}
use Rattle.dd_rank.proofs.Fulls.{any_rank, full-alike}
use Rattle.dd_rank.proofs.Lengths.{counts-same}
use Rattle.dd_rank.proofs.Looked.{cover-covers, covers-less}
use Rattle.dd_rank.proofs.Places.{count-le}
use Rattle.dd_rank.proofs.Standing.{places-count, places-digits}

-- a card of some rank is over a card of none
over : (c d : PlayingCard) → IsOver any_rank c d
over c d tc td suits =
    let low : d.rank ≤ 0 = not-lt 0 d.rank td in
    let high : 0 < c.rank = ltb-true 0 c.rank tc in
    omega (arith, low, high)
  where
    not-lt : (m n : ℕ) → nat_lt m n ≡ false → n ≤ m
    not-lt m n h = grind (arith, nat_tests)

-- Full depths cover each alike position.
pub alike-full : (p q : Board) (depths : Suit → ℕ) → IsBoard p → IsBoard q → ((u : Suit) → depths u ≡ count_of u (all_cards p)) → AreAlike p q → Covers p depths q
alike-full p q depths valid_p valid_q full a =
    let r = alike-cover a.0 a.1 a.2 p q valid_p valid_q a.3 in
    let few = cover-fewer any_rank any_card a.0 a.1 a.2 (side_of p.first) p (side_of q.first) q (λ c t. refl) (met-start p (IsOver any_rank) a.3.start_p (λ x y c d n hc hd. over c d)) r in
    let strict : IsStrict any_card a.1 a.2 p q = record {
      keeps = λ x c d hc hd tc td suits. a.3.order x x c d hc hd suits;
      over = λ x c d hc hd tc td suits. absurd (cc);
    } in (
      a.0,
      covers-less a.0 depths _ p q many
          (cover-covers any_rank a.0 a.1 a.2 (side_of p.first) p (side_of q.first) q (over, λ u. refl) a.3.start_p few
          (strict-fewer any_rank any_card a.0 a.1 a.2 (side_of p.first) p (side_of q.first) q (λ c t. refl) over r strict)),
    )
  where
    many : (u : Suit) → depths u ≤ length (filter (λ e. is_of u e && any_rank e) (all_cards p))
    many u =
        let k = count-le (is_of u) (λ e. is_of u e && any_rank e) (all_cards p) (λ e h t. (
        let x = all-in p e h in let real = (card-real p x.0 e valid_p x.1).0 in rw (t, lt-ltb 0 e.rank (omega (arith, real))) refl)) in
        let f = full u in
        omega (arith, k, f)

-- strings of the same parts are the same
same-parts : (s t : Strain) (n m a i b j c k d l : ℕ) → s ≡ t → n ≡ m → a ≡ i → b ≡ j → c ≡ k → d ≡ l
    → (let r : Strings = record { strain = s; lengths = n; spades = a; hearts = b; diamonds = c; clubs = d } in r) ≡ record { strain = t; lengths = m; spades = i; hearts = j; diamonds = k; clubs = l }
same-parts s t n m a i b j c k d l es en ea eb ec ed = rw (es, en, ea, eb, ec, ed) refl

-- a suit's owners are its lowest digits, as many as there are cards
whole-owners : (p : Board) → IsBoard p → (u : Suit) (n : ℕ) → n ≡ count_of u (all_cards p) → owners_number p u % 4 ^ n ≡ owners_number p u
unfolding owners_number
whole-owners p valid u n e = ap (λ d. owners_number p u % 4 ^ d) (e ∙ places-count p valid u) ∙ whole-number (owner_places p u) (places-digits p u)

-- Positions are alike exactly where their owner strings are the same.
pub alike-strings : (p q : Board) → IsBoard p → IsBoard q → p.trick ≡ [] → q.trick ≡ [] → AreAlike p q ↔ strings_of q ≡ strings_of p
alike-strings p q valid_p valid_q start_p start_q = (
  λ a. (
      let agreed = covers-agree full p q valid_p valid_q (alike-full p q full valid_p valid_q (λ u. refl) a) in
      let lengths = ap (λ (s : ShapeOf). s.lengths) agreed.shape in
      let suit = λ (u : Suit). sym (whole-owners q valid_q u (full u) (sym (counts-same p q valid_p valid_q lengths u))) ∙ agreed.owners u ∙ whole-owners p valid_p u (full u) refl in
      same-parts _ _ _ _ _ _ _ _ _ _ _ _ (ap (λ (s : ShapeOf). s.strain) agreed.shape) lengths (suit Spades) (suit Hearts) (suit Diamonds) (suit Clubs)),
  λ e. full-alike p q full valid_p valid_q (λ u. refl) (agree-covers full p q valid_p valid_q start_p start_q (record {
    shape = ap (λ (s : Strings). (let r : ShapeOf = record { strain = s.strain; lengths = s.lengths } in r)) e;
    most = λ u. omega arith;
    owners = λ u. ap (λ n. n % 4 ^ full u) (owners u e);
  })),
)
  where
    full : Suit → ℕ
    full u = count_of u (all_cards p)

    owners : (u : Suit) → strings_of q ≡ strings_of p → owners_number q u ≡ owners_number p u
    owners Spades e = ap (λ (s : Strings). s.spades) e
    owners Hearts e = ap (λ (s : Strings). s.hearts) e
    owners Diamonds e = ap (λ (s : Strings). s.diamonds) e
    owners Clubs e = ap (λ (s : Strings). s.clubs) e

-- ---- the tests of strings and of shapes
-- equal shapes are one shape
pub shapes-tell : (x y : ShapeOf) → same_shape x y ≡ true ↔ x ≡ y
shapes-tell x y = (
  λ h. (
      let a = both-pass (strain_code x.strain == strain_code y.strain) (x.lengths == y.lengths) h in
      same x.strain y.strain x.lengths y.lengths (strain_code-injective x.strain y.strain (eqb-true _ _ a.0)) (eqb-true _ _ a.1)),
  λ e. rw (eq-eqb (strain_code x.strain) (strain_code y.strain) (ap (λ (s : ShapeOf). strain_code s.strain) e), eq-eqb x.lengths y.lengths (ap (λ (s : ShapeOf). s.lengths) e)) refl,
)
  where
    same : (s t : Strain) (n m : ℕ) → s ≡ t → n ≡ m → (let r : ShapeOf = record { strain = s; lengths = n } in r) ≡ record { strain = t; lengths = m }
    same s t n m es en = rw (es, en) refl

-- equal strings are the same strings
pub strings-tell : (x y : Strings) → same_strings x y ≡ true ↔ x ≡ y
strings-tell x y = (
  λ h. (
      let a = both-pass (strain_code x.strain == strain_code y.strain) _ h in
      let b = both-pass (x.lengths == y.lengths) _ a.1 in
      let c = both-pass (x.spades == y.spades) _ b.1 in
      let d = both-pass (x.hearts == y.hearts) _ c.1 in
      let e = both-pass (x.diamonds == y.diamonds) (x.clubs == y.clubs) d.1 in
      same-parts x.strain y.strain x.lengths y.lengths x.spades y.spades x.hearts y.hearts x.diamonds y.diamonds x.clubs y.clubs
      (strain_code-injective x.strain y.strain (eqb-true _ _ a.0)) (eqb-true _ _ b.0) (eqb-true _ _ c.0) (eqb-true _ _ d.0) (eqb-true _ _ e.0) (eqb-true _ _ e.1)),
  λ e. rw (
    eq-eqb (strain_code x.strain) (strain_code y.strain) (ap (λ (s : Strings). strain_code s.strain) e),
    eq-eqb x.lengths y.lengths (ap (λ (s : Strings). s.lengths) e),
    eq-eqb x.spades y.spades (ap (λ (s : Strings). s.spades) e),
    eq-eqb x.hearts y.hearts (ap (λ (s : Strings). s.hearts) e),
    eq-eqb x.diamonds y.diamonds (ap (λ (s : Strings). s.diamonds) e),
    eq-eqb x.clubs y.clubs (ap (λ (s : Strings). s.clubs) e),
  ) refl,
)
