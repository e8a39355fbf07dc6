use Rattle.std.proofs.Common.{◌≡◌, ◌+◌, ℕ, Bool, refl, sym, ap, ◌∙◌, subst, arith}
use Rattle.std.specs.Prelude.{nat_lt, ◌&&◌, ◌||◌, ◌==◌, if◌then◌else◌}
use mathlib.Core.Path.{ap₂}
use Rattle.dd_cards.specs.Cards.{is_of}
use Rattle.dd_cards.specs.Seats.{seat_after}
use Rattle.dd_play.specs.Board.{cards_at}
use Rattle.dd_play.proofs.CallerLemmas.{flag_of}
use Rattle.dd_quick.specs.QuickTricks.{guards, is_ahead, is_unbeaten, length_at, longer, tops, unbeaten}
use Rattle.dd_quick.specs.Seen.{AreRanks}
use Rattle.dd_quick.proofs.Reached.{length-of}
use Rattle.dd_quick.proofs.TakenTrick.{one-three}
use Rattle.dd_quick.proofs.later_trick.by_suit.Goals as goal
use Rattle.dd_quick.proofs.later_trick.by_suit.Goals.{After-is_guard-by_right}

-- the test by its numbers
abbrev test : ℕ → ℕ → ℕ → ℕ → ℕ → ℕ → Bool
test ahead all tops longer behind_tops behind = ((nat_lt 0 ahead && nat_lt tops longer) && nat_lt tops all) && ((behind_tops == 0) || (behind_tops == behind))

same-test : (a b n m t u l k x y v w : ℕ) → a ≡ b → n ≡ m → t ≡ u → l ≡ k → x ≡ y → v ≡ w → test a n t l x v ≡ test b m u k y w
same-test a b n m t u l k x y v w e f g h i j = rw (e, f, g, h, i, j) refl

-- what is counted, and whether each opponent guards the suit
record Counts (c : After-is_guard-by_right) : Type 0 where
  tops_are : c.len-own.result + c.len-partners.result ≡ tops c.args.position.now c.args.suit
  longer_is : c.max-longer.result ≡ longer c.args.position.now c.args.suit
  on_left : c.is_guard-by_left.result ≡ guards c.args.position.now 1 c.args.suit
  on_right : c.is_guard-by_right.result ≡ guards c.args.position.now 3 c.args.suit

counts : (c : After-is_guard-by_right) → Counts c
counts c =
    let p = c.args.position.now in
    let u = c.args.suit in
    let ranks = c.ranks_at-ranks.result in
    let are = subst (λ x. AreRanks p x u ranks.own ranks.left ranks.partner ranks.right) c.first.ensures c.ranks_at-ranks.ensures in
    let own = c.len-own.ensures.len ∙ length-of u (λ d. is_of u d && is_unbeaten p p.first d) c.own_unbeaten.result (cards_at p p.first) (c.own_unbeaten.ensures p p.first u are) in
    let partners = c.len-partners.ensures.len ∙ length-of u (λ d. is_of u d && is_unbeaten p (seat_after p.first 2) d) c.partners_unbeaten.result (cards_at p (seat_after p.first 2)) (c.partners_unbeaten.ensures p u are) in
    let own_all = length-of u (is_of u) ranks.own (cards_at p p.first) are.of_own in
    let partner_all = length-of u (is_of u) ranks.partner (cards_at p (seat_after p.first 2)) are.of_partner in
    let left_all = c.len-left.ensures.len ∙ length-of u (is_of u) ranks.left (cards_at p (seat_after p.first 1)) are.of_left in
    let right_all = c.len-right.ensures.len ∙ length-of u (is_of u) ranks.right (cards_at p (seat_after p.first 3)) are.of_right in
    let left_best = c.len-left_ahead.ensures.len ∙ length-of u (λ d. is_of u d && is_ahead p (seat_after p.first 1) d) c.left_ahead.result (cards_at p (seat_after p.first 1)) (c.left_ahead.ensures p u are) in
    let right_best = c.len-right_ahead.ensures.len ∙ length-of u (λ d. is_of u d && is_ahead p (seat_after p.first 3) d) c.right_ahead.result (cards_at p (seat_after p.first 3)) (c.right_ahead.ensures p u are) in
    let sum : c.len-own.result + c.len-partners.result ≡ tops p u = ap₂ (λ a b. a + b) own partners in
    let a = c.len.ensures.len in
    let b = c.len-2.ensures.len in
    let m = c.max-longer.ensures in
    let long : c.max-longer.result ≡ longer p u = omega (arith, a, b, m, own_all, partner_all) in
    let leader = sym (one-three p.first) in
    record {
      tops_are = sum;
      longer_is = long;
      on_left = c.is_guard-by_left.ensures ∙ same-test _ _ _ _ _ _ _ _ _ _ _ _ left_best left_all sum long partners (c.len-partner.ensures.len ∙ partner_all);
      on_right = c.is_guard-by_right.ensures ∙ same-test _ _ _ _ _ _ _ _ _ _ _ _ right_best right_all sum long (own ∙ ap (λ x. unbeaten p x u) leader) (c.len-3.ensures.len ∙ own_all ∙ ap (λ x. length_at p x u) leader);
    }

pub returns-clause-rounds : goal.returns-clause-rounds
returns-clause-rounds c =
    let k = counts (goal.at.returns-clause-rounds c).After-is_guard-by_right in
    let p = c.args.position.now in
    let u = c.args.suit in
    c.rounds_of.ensures ∙ ap₂ (λ a b. if a || b then c.len-own.result + c.len-partners.result else c.max-longer.result) k.on_left k.on_right ∙ ap₂ (λ a b. if guards p 1 u || guards p 3 u then a else b) k.tops_are k.longer_is

pub returns-clause-left : goal.returns-clause-left
returns-clause-left c = c.one_if.ensures ∙ ap flag_of (counts (goal.at.returns-clause-left c).After-is_guard-by_right).on_left

pub returns-clause-right : goal.returns-clause-right
returns-clause-right c = c.one_if-2.ensures ∙ ap flag_of (counts (goal.at.returns-clause-right c).After-is_guard-by_right).on_right
