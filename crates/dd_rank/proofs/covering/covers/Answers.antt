use Rattle.std.proofs.Common.{◌≡◌, Bool, true, false, refl, sym, ap, ◌∙◌, subst}
use Rattle.std.specs.Prelude.{◌↔◌, IsTrue}
use mathlib.Core.Bool.{not}
use Rattle.dd_play.specs.Board.{Board}
use Rattle.dd_rank.specs.Depths.{Covers, FourDepths, depth_in}
use Rattle.dd_rank.specs.Strings.{shape_of, shape_in}
use Rattle.dd_rank.proofs.Agreed.{covers-agree}
use Rattle.dd_rank.proofs.Alikes.{shapes-tell}
use Rattle.dd_rank.proofs.covering.covers.Goals as goal

-- a test that isn't false is true
not-false : (b : Bool) → false ≡ not b → b ≡ true
not-false true e = refl
not-false false e = absurd (cc)

-- a test that isn't true is false
not-true : (b : Bool) → true ≡ not b → b ≡ true → ⊥
not-true true e h = absurd (cc)
not-true false e h = absurd (cc)

pub covers-requires : goal.covers-requires
covers-requires c =
    let same : c.shape.result ≡ c.shape-2.result = (shapes-tell c.shape.result c.shape-2.result).0 (not-false _ (sym c.if-ne.false ∙ c.ne.ensures)) in
    sym c.shape-2.ensures ∙ sym same ∙ c.shape.ensures ∙ ap shape_in c.of-strings.ensures ∙ ap shape_of (sym c.new.ensures.0)

pub returns-then-ne : goal.returns-then-ne
returns-then-ne c = (
  λ t. absurd (cc),
  λ a. absurd (
      let agreed = covers-agree (depth_in c.args.depths) c.args.one.now c.args.other.now c.position.ensures.board c.position-2.ensures.board a in
      let same : c.shape.result ≡ c.shape-2.result = c.shape.ensures ∙ ap shape_in c.of-strings.ensures ∙ sym agreed.shape ∙ ap shape_in (sym c.of-others.ensures) ∙ sym c.shape-2.ensures in
      not-true _ (sym c.if-ne.true ∙ c.ne.ensures) ((shapes-tell c.shape.result c.shape-2.result).1 same)),
)

pub returns : goal.returns
returns c =
    let known = c.covers.ensures c.args.other.now c.position-2.ensures.board c.position-2.ensures.start c.of-others.ensures in
    let P : Board → FourDepths → Type 0 = λ b d. IsTrue c.covers.result ↔ Covers b (depth_in d) c.args.other.now in
    subst (λ b. P b c.args.depths) c.new.ensures.0 (subst (λ d. P c.new.result.board d) c.new.ensures.1 known)
