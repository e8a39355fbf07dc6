-- winning ranks that reach given cards, and those of given depths
use Rattle.std.proofs.Common.{◌≡◌, ℕ, zero, suc, ◌+◌, ◌-◌, ◌<◌, ◌≤◌, Bool, true, false, refl, sym, ap, ◌∙◌, arith, List, [], ◌∷◌, inl, inr}
use Rattle.std.specs.Prelude.{nat_lt, ◌&&◌}
use Rattle.std.proofs.lemmas.Bool.{cases_lt, lt-ltb, ltb-true, and_from, or_left, or_right}
use Rattle.dd_cards.specs.declared.suit.Suit.{Suit}
use Rattle.dd_cards.specs.PlayingCard.{PlayingCard}
use Rattle.dd_cards.specs.Ranks.{IsRank}
use Rattle.dd_cards.specs.Cards.{card_of, has_card, is_of}
use Rattle.dd_cards.proofs.CallerLemmas.{and-left, and-right, same_card-self}
use Rattle.dd_play.specs.Board.{Board}
use Rattle.dd_play.specs.Covers.{count_of}
use Rattle.dd_play.specs.Reach.{reach}
use Rattle.dd_play.proofs.CallerLemmas.{card-real, count, count-cons, flag_of, suit-of, reach-in}
use Rattle.dd_rank.specs.Depths.{FourDepths, all_cards, depth_in, depths_of}
use Rattle.dd_relative.specs.Relative.{IsRelative}
use Rattle.dd_relative.specs.WinningRanks.{AreTop}
use Rattle.dd_relative.proofs.Places.{above-count, flag-le}
use Rattle.dd_rank.proofs.CallerLemmas.{all-in}
use Rattle.dd_cards.specs.Sequences.{is_above}

-- ---- depths
-- where one test counts more cards, a card passes it and fails the other
more-some : (f g : PlayingCard → Bool) (cards : List PlayingCard) → count g cards < count f cards → (c : PlayingCard) × (has_card cards c ≡ true) × (f c ≡ true) × (g c ≡ false)
more-some f g [] h = absurd (omega (arith, h))
more-some f g (c ∷ cards) h = go (more-some f g cards) (f c) (g c) refl refl
  where
    later : (count g cards < count f cards → (d : PlayingCard) × (has_card cards d ≡ true) × (f d ≡ true) × (g d ≡ false)) → count g cards < count f cards
        → (d : PlayingCard) × (has_card (c ∷ cards) d ≡ true) × (f d ≡ true) × (g d ≡ false)
    later rest less = (let d = rest less in (d.0, or_right _ _ d.1, d.2, d.3))

    one : (b d : Bool) → f c ≡ b → g c ≡ d → flag_of b ≤ flag_of d → count g cards < count f cards
    one b d ef eg less =
        let a : count f (c ∷ cards) ≡ flag_of (f c) + count f cards = count-cons f c cards in
        let e : count g (c ∷ cards) ≡ flag_of (g c) + count g cards = count-cons g c cards in
        let x : flag_of (f c) ≡ flag_of b = ap flag_of ef in
        let y : flag_of (g c) ≡ flag_of d = ap flag_of eg in
        omega (arith, a, e, x, y, less, h)

    go : (count g cards < count f cards → (d : PlayingCard) × (has_card cards d ≡ true) × (f d ≡ true) × (g d ≡ false)) → (b d : Bool) → f c ≡ b → g c ≡ d
        → (d : PlayingCard) × (has_card (c ∷ cards) d ≡ true) × (f d ≡ true) × (g d ≡ false)
    go rest true false ef eg = (c, or_left _ _ (same_card-self c), ef, eg)
    go rest true true ef eg = later rest (one true true ef eg (omega arith))
    go rest false false ef eg = later rest (one false false ef eg (omega arith))
    go rest false true ef eg = later rest (one false true ef eg (omega arith))

module _ (p : Board) (relative : IsRelative p) (u : Suit) where
  card-most : (c : PlayingCard) → has_card (all_cards p) c ≡ true → IsRank c.rank
  card-most c has = (let x = all-in p c has in card-real p x.0 c relative.board x.1)

  -- of so many cards the highest ranks are there
  pub highest-there : (n : ℕ) → n ≤ count_of u (all_cards p) → (d : PlayingCard) → d.suit ≡ u → 14 < d.rank + n → d.rank ≤ 14 → has_card (all_cards p) d ≡ true
  highest-there zero few d suit low high = absurd (omega (arith, low, high))
  highest-there (suc n) few d suit low high = elim (cases_lt 14 (d.rank + n)) [
    | inl over ↦ highest-there n (omega (arith, few)) d suit over high
    | inr at ↦ (
        let rank : d.rank + n ≡ 14 = omega (arith, at, low) in
        let above : count (is_above (card_of u d.rank)) (all_cards p) ≡ n =
        above-count p relative.board u n d.rank rank (λ e same over top. highest-there n (omega (arith, few)) e same (omega (arith, over, rank)) top) in
        let c = more-some (is_of u) (is_above (card_of u d.rank)) (all_cards p) (omega (arith, above, few)) in
        let same = suit-of u c.0 c.2 in
        relative.closed c.0 d c.1 (suit ∙ sym same) (not-above c.0 d.rank c.2 c.3) high)
  ]
    where
      not-above : (c : PlayingCard) (r : ℕ) → is_of u c ≡ true → is_above (card_of u r) c ≡ false → c.rank ≤ r
      not-above c r of fails = elim (cases_lt r c.rank) [
        | inr less ↦ less
        | inl more ↦ absurd (let no : true ≡ false = sym (and_from (is_of u c) (nat_lt r c.rank) of (lt-ltb r c.rank more)) ∙ fails in cc)
      ]

  -- .. so there are no more than thirteen of a suit
  pub suit-13 : count_of u (all_cards p) ≤ 13
  suit-13 = elim (cases_lt 13 (count_of u (all_cards p))) [
    | inr few ↦ few
    | inl more ↦ absurd (let r = card-most (card_of u 1) (highest-there 14 (omega (arith, more)) (card_of u 1) refl (omega arith) (omega arith)) in let low = r.0 in omega (arith, low))
  ]

  -- so many are reached by the highest ranks
  pub depth-reached : (n : ℕ) (cards : List PlayingCard) → n ≤ count_of u (all_cards p) → ((c : PlayingCard) → c.suit ≡ u → IsRank c.rank → 14 < c.rank + n → has_card cards c ≡ true) → n ≤ depths_of (reach cards) p u
  depth-reached n cards few has =
      let thirteen = suit-13 in
      let above : count (is_above (card_of u (14 - n))) (all_cards p) ≡ n =
      above-count p relative.board u n (14 - n) (omega (arith, few, thirteen)) (λ d suit over high. highest-there n few d suit (omega (arith, over, few, thirteen)) high) in
      let more = reached-more (all_cards p) (λ c h. card-most c h) in
      omega (arith, above, more)
    where
      reached-more : (list : List PlayingCard) → ((c : PlayingCard) → has_card list c ≡ true → IsRank c.rank) → count (is_above (card_of u (14 - n))) list ≤ count (λ e. is_of u e && reach cards e) list
      reached-more [] real = omega arith
      reached-more (c ∷ list) real =
          let rest = reached-more list (λ d h. real d (or_right _ _ h)) in
          let a : count (is_above (card_of u (14 - n))) (c ∷ list) ≡ flag_of (is_above (card_of u (14 - n)) c) + count (is_above (card_of u (14 - n))) list = count-cons (is_above (card_of u (14 - n))) c list in
          let b : count (λ e. is_of u e && reach cards e) (c ∷ list) ≡ flag_of (is_of u c && reach cards c) + count (λ e. is_of u e && reach cards e) list = count-cons (λ e. is_of u e && reach cards e) c list in
          let f = flag-le (is_above (card_of u (14 - n)) c) (is_of u c && reach cards c) (λ h. here c (real c (or_left _ _ (same_card-self c))) h) in
          omega (arith, rest, a, b, f)
        where
          here : (c : PlayingCard) → IsRank c.rank → is_above (card_of u (14 - n)) c ≡ true → (is_of u c && reach cards c) ≡ true
          here c real h =
              let of = and-left (is_of u c) (nat_lt (14 - n) c.rank) h in
              let over : 14 - n < c.rank = ltb-true (14 - n) c.rank (and-right (is_of u c) (nat_lt (14 - n) c.rank) h) in
              and_from (is_of u c) (reach cards c) of (reach-in cards c (has c (suit-of u c of) real (omega (arith, over))))

-- the highest ranks are top cards
pub ranks-top : (cards : List PlayingCard) (depths : FourDepths) → ((c : PlayingCard) → IsRank c.rank → has_card cards c ≡ nat_lt 14 (c.rank + depth_in depths c.suit)) → ((c : PlayingCard) → has_card cards c ≡ true → IsRank c.rank) → AreTop cards
ranks-top cards depths are real c d has suit low high =
    let real_c = real c has in
    let two = real_c.0 in
    let over : 14 < c.rank + depth_in depths c.suit = ltb-true 14 (c.rank + depth_in depths c.suit) (sym (are c real_c) ∙ has) in
    let same : depth_in depths d.suit ≡ depth_in depths c.suit = ap (depth_in depths) suit in
    are d (omega (arith, two, low), high) ∙ lt-ltb 14 (d.rank + depth_in depths d.suit) (omega (arith, over, same, low))
