-- bounds by first owners and bounds by depths
use Rattle.std.proofs.Common.{◌≡◌, ℕ, ◌%◌, ◌^◌, ◌≤◌, [], sym, ap, ◌∙◌, subst}
use Rattle.std.specs.Prelude.{◌↔◌}
use mathlib.Core.Path.{ap₂}
use Rattle.dd_cards.specs.declared.suit.Suit.{Suit}
use Rattle.dd_play.specs.Board.{Board, IsBoard}
use Rattle.dd_play.specs.Covers.{count_of}
use Rattle.dd_play.specs.Value.{leaders_tricks}
use Rattle.dd_play.specs.Intervals.{Holds}
use Rattle.dd_play.specs.declared.interval.Interval.{Interval}
use Rattle.dd_rank.specs.Depths.{FourDepths, all_cards, depth_in, Covers}
use Rattle.dd_rank.specs.Strings.{Strings, ShapeOf, shape_of, shape_in, strings_of, string_in}
use Rattle.dd_rank.specs.FirstOwners.{Firsts, AreFirst, first_in}
use Rattle.dd_cache.specs.StoredBounds.{StoredBoundsOf, IsSound}

-- a position covers those of its shape with the same first owners, and no others
abbrev pub CoversByOwners : Type 0
CoversByOwners = (p q : Board) (depths : Suit → ℕ) → IsBoard p → IsBoard q → p.trick ≡ [] → q.trick ≡ [] → ((u : Suit) → depths u ≤ count_of u (all_cards p))
    → (Covers p depths q ↔ ((shape_of q ≡ shape_of p) × ((u : Suit) → string_in (strings_of q) u % 4 ^ depths u ≡ string_in (strings_of p) u % 4 ^ depths u)))

-- positions of one shape have as many cards of each suit
abbrev pub CountsByShape : Type 0
CountsByShape = (p q : Board) → IsBoard p → IsBoard q → shape_of q ≡ shape_of p → (u : Suit) → count_of u (all_cards q) ≡ count_of u (all_cards p)

-- what is noted by depths is sound by first owners
pub noted-sound : CoversByOwners → CountsByShape → (p : Board) (s : Strings) (shape : ShapeOf) (depths : FourDepths) (f : Firsts) (i : Interval) → IsBoard p → p.trick ≡ []
    → s ≡ strings_of p → shape ≡ shape_in s → f.depths ≡ depths → ((u : Suit) → first_in f u ≡ string_in s u % 4 ^ depth_in depths u)
    → ((u : Suit) → depth_in depths u ≤ count_of u (all_cards p)) → ((q : Board) → IsBoard q → Covers p (depth_in depths) q → Holds i (leaders_tricks q))
    → IsSound shape (record { firsts = f; interval = i })
noted-sound owners counts p s shape depths f i valid start is same deep firsts within holds = record {
  within = λ q valid_q of u. subst (λ n. depth_in f.depths u ≤ n) (sym (counts p q valid valid_q (of ∙ shaped) u)) (subst (λ (d : FourDepths). depth_in d u ≤ count_of u (all_cards p)) (sym deep) (within u));
  holds = λ q valid_q start_q of are. holds q valid_q ((owners p q (depth_in depths) valid valid_q start start_q within).1 (
    of ∙ shaped,
    λ u.
        subst (λ (d : FourDepths). string_in (strings_of q) u % 4 ^ depth_in d u ≡ first_in f u) deep (are u) ∙ firsts u ∙ ap (λ (x : Strings). string_in x u % 4 ^ depth_in depths u) is,
  ));
}
  where
    shaped : shape ≡ shape_of p
    shaped = same ∙ ap shape_in is

-- what is sound by first owners holds of each position that one with these owners covers
pub told-holds : CoversByOwners → (p : Board) (s : Strings) (t : StoredBoundsOf) (depths : FourDepths) (i : Interval) → IsBoard p → p.trick ≡ [] → s ≡ strings_of p
    → IsSound (shape_in s) t → AreFirst t.firsts s → t.firsts.depths ≡ depths → t.interval ≡ i → (q : Board) → IsBoard q → Covers p (depth_in depths) q → Holds i (leaders_tricks q)
told-holds owners p s t depths i valid start is sound are deep bounds q valid_q cover =
    subst (λ (x : Interval). Holds x (leaders_tricks q)) bounds
    (sound.holds q valid_q cover.1.start_q (same.0 ∙ sym (ap shape_in is)) (λ u.
    ap (λ (d : FourDepths). string_in (strings_of q) u % 4 ^ depth_in d u) deep ∙ same.1 u
    ∙ ap₂ (λ (x : Strings) (d : FourDepths). string_in x u % 4 ^ depth_in d u) (sym is) (sym deep) ∙ are u))
  where
    within : (u : Suit) → depth_in depths u ≤ count_of u (all_cards p)
    within u = subst (λ (d : FourDepths). depth_in d u ≤ count_of u (all_cards p)) deep (sound.within p valid (sym (ap shape_in is)) u)

    same : (shape_of q ≡ shape_of p) × ((u : Suit) → string_in (strings_of q) u % 4 ^ depth_in depths u ≡ string_in (strings_of p) u % 4 ^ depth_in depths u)
    same = (owners p q (depth_in depths) valid valid_q start cover.1.start_q within).0 cover

-- and its depths are there
pub told-within : (p : Board) (s : Strings) (t : StoredBoundsOf) (depths : FourDepths) → IsBoard p → s ≡ strings_of p → IsSound (shape_in s) t → t.firsts.depths ≡ depths
    → (u : Suit) → depth_in depths u ≤ count_of u (all_cards p)
told-within p s t depths valid is sound deep u = subst (λ (d : FourDepths). depth_in d u ≤ count_of u (all_cards p)) deep (sound.within p valid (sym (ap shape_in is)) u)
