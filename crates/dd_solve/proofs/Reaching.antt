-- the classes that reach a target, class by class
use Rattle.std.proofs.Common.{◌≡◌, ℕ, ◌+◌, ◌<◌, ◌≤◌, Bool, true, false, cond, refl, sym, ap, ◌∙◌, arith, List, [], ◌∷◌, ◌++◌, length, take, drop, get_or}
use Rattle.std.specs.Prelude.{map, filter, nat_le, nat_eq}
use Rattle.std.proofs.lemmas.Bool.{lt-leb}
use Rattle.std.proofs.lemmas.List.{take_more, take-append-drop, take_all, map-append, length-map}
use Rattle.std.proofs.Math.Seq.{take-append_seam}
use Rattle.std.proofs.lemmas.List.Elements.{filter-append}
use Rattle.dd_cards.specs.PlayingCard.{PlayingCard}
use Rattle.dd_cards.specs.Cards.{has_card}
use Rattle.dd_cards.proofs.CallerLemmas.{length-filter-le}
use Rattle.dd_cards.specs.Sides.{side_of}
use Rattle.dd_play.specs.Board.{Board, IsBoard, mover, tricks_left}
use Rattle.dd_play.specs.Play.{legal}
use Rattle.dd_play.specs.Value.{score}
use Rattle.dd_play.proofs.CallerLemmas.{all}
use Rattle.dd_equal.specs.EqualCards.{EqualCards, tops, class_of, classes_of}
use Rattle.dd_search.proofs.CallerLemmas.{score-most, few-classes}
use Rattle.dd_request.specs.ScoredClasses.{ScoredClass}
use Rattle.dd_request.specs.Targets.{target_class, all_reaching, reaching}

-- does a class reach the target?
abbrev pub does_reach : Board → ℕ → EqualCards → Bool
does_reach p target class = nat_le target (score p class.top)

-- the class, with the target as its score
abbrev pub as_target : ℕ → EqualCards → ScoredClass
as_target target class = record { card = class.top; equals = class.equals; score = target }

-- of these classes those that reach the target
abbrev pub reached : Board → ℕ → List EqualCards → List ScoredClass
reached p target classes = map (as_target target) (filter (does_reach p target) classes)

-- the classes of these cards that reach it
reached-tops : (p : Board) (target : ℕ) (cards : List PlayingCard) → reached p target (map (class_of p) cards) ≡ map (target_class p target) (filter (λ c. nat_le target (score p c)) cards)
reached-tops p target [] = refl
reached-tops p target (c ∷ cards) = go (nat_le target (score p c)) (reached-tops p target cards)
  where
    go : (b : Bool) → reached p target (map (class_of p) cards) ≡ map (target_class p target) (filter (λ c. nat_le target (score p c)) cards)
        → map (as_target target) (cond b (class_of p c ∷ filter (does_reach p target) (map (class_of p) cards)) (filter (does_reach p target) (map (class_of p) cards)))
        ≡ map (target_class p target) (cond b (c ∷ filter (λ c. nat_le target (score p c)) cards) (filter (λ c. nat_le target (score p c)) cards))
    go true e = ap (λ xs. target_class p target c ∷ xs) e
    go false e = e

-- of all classes of the position
pub reached-all : (p : Board) (target : ℕ) (classes : List EqualCards) → classes ≡ classes_of p → reached p target classes ≡ all_reaching p target
reached-all p target classes are = ap (reached p target) are ∙ reached-tops p target (tops p)

-- of both of two lists
reached-append : (p : Board) (target : ℕ) (front back : List EqualCards) → reached p target (front ++ back) ≡ reached p target front ++ reached p target back
reached-append p target front back =
    ap (map (as_target target)) (filter-append (does_reach p target) front back)
    ∙ map-append (as_target target) (filter (does_reach p target) front) (filter (does_reach p target) back)

-- one class more
reached-next : (p : Board) (target : ℕ) (classes : List EqualCards) (place : ℕ) (class : EqualCards) → place < length classes → class ≡ get_or classes place class
    → reached p target (take (place + 1) classes) ≡ reached p target (take place classes) ++ reached p target (class ∷ [])
reached-next p target classes place class within here =
    ap (reached p target) (take_more classes place class within ∙ ap (λ x. take place classes ++ x ∷ []) (sym here))
    ∙ reached-append p target (take place classes) (class ∷ [])

-- a class that reaches the target comes last of them
pub reached-more : (p : Board) (target : ℕ) (classes : List EqualCards) (place : ℕ) (class : EqualCards) → place < length classes → class ≡ get_or classes place class
    → does_reach p target class ≡ true → reached p target (take (place + 1) classes) ≡ reached p target (take place classes) ++ as_target target class ∷ []
reached-more p target classes place class within here more =
    reached-next p target classes place class within here
    ∙ ap (λ b. reached p target (take place classes) ++ map (as_target target) (cond b (class ∷ []) [])) more

-- and one that does not is not among them
pub reached-past : (p : Board) (target : ℕ) (classes : List EqualCards) (place : ℕ) (class : EqualCards) → place < length classes → class ≡ get_or classes place class
    → does_reach p target class ≡ false → reached p target (take (place + 1) classes) ≡ reached p target (take place classes)
reached-past p target classes place class within here no_more =
    reached-next p target classes place class within here
    ∙ ap (λ b. reached p target (take place classes) ++ map (as_target target) (cond b (class ∷ []) [])) no_more
    ∙ append-none (reached p target (take place classes))
  where
    append-none : (xs : List ScoredClass) → xs ++ [] ≡ xs
    append-none [] = refl
    append-none (x ∷ xs) = ap (λ ys. x ∷ ys) (append-none xs)

-- those among the first classes come first of all
pub reached-front : (p : Board) (target : ℕ) (classes : List EqualCards) (place : ℕ)
    → take (length (reached p target (take place classes))) (reached p target classes) ≡ reached p target (take place classes)
reached-front p target classes place =
    let front : List ScoredClass = reached p target (take place classes) in
    let back : List ScoredClass = reached p target (drop place classes) in
    ap (λ cs. take (length front) (reached p target cs)) (sym (take-append-drop place classes))
    ∙ ap (take (length front)) (reached-append p target (take place classes) (drop place classes))
    ∙ take-append_seam front back

-- they are at most thirteen
pub reaching-13 : (p : Board) (target : ℕ) → IsBoard p → length (all_reaching p target) ≤ 13
reaching-13 p target valid =
    let all : reached p target (classes_of p) ≡ all_reaching p target = reached-all p target (classes_of p) refl in
    let same = ap length all in
    let size = length-map (filter (does_reach p target) (classes_of p)) (as_target target) in
    let fewer = length-filter-le (does_reach p target) (classes_of p) in
    let few = few-classes p (classes_of p) valid refl in
    omega (arith, same, size, fewer, few)

-- no card reaches more than the tricks that are left
pub none-reaches : (p : Board) (target : ℕ) (c : PlayingCard) → IsBoard p → has_card (legal p) c ≡ true → tricks_left p < target → false ≡ nat_le target (score p c)
none-reaches p target c valid has over =
    let most = score-most p c valid has in
    let both = all (side_of (mover p)) p valid in
    sym (lt-leb target (score p c) (omega (arith, over, most, both)))

-- as many of them as are asked for
pub reaching-asked : (p q : Board) (target same solutions which most : ℕ) → IsBoard q → p ≡ q → target ≡ same → solutions ≡ which → most ≡ cond (nat_eq solutions 2) 13 1
    → take most (all_reaching p target) ≡ reaching q same which
reaching-asked p q target same solutions which most valid board number asked is =
    ap (λ n. take n (all_reaching p target)) is
    ∙ ap (λ k. take (cond (nat_eq k 2) 13 1) (all_reaching p target)) asked
    ∙ ap (λ (b : Board). take (cond (nat_eq which 2) 13 1) (all_reaching b target)) board
    ∙ ap (λ t. take (cond (nat_eq which 2) 13 1) (all_reaching q t)) number
    ∙ go (nat_eq which 2)
  where
    go : (b : Bool) → take (cond b 13 1) (all_reaching q same) ≡ cond b (all_reaching q same) (take 1 (all_reaching q same))
    go true = take_all 13 (all_reaching q same) (reaching-13 q same valid)
    go false = refl
