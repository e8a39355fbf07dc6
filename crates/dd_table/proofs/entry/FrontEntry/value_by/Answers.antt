use Rattle.std.proofs.Common.{◌≡◌, refl, sym, ◌∙◌}
use Rattle.dd_table.proofs.entry.FrontEntry.value_by.Goals as goal

pub returns-then-eq-clause-some : goal.returns-then-eq-clause-some
returns-then-eq-clause-some c =
    let same : c.args.strings.now ≡ c.self.inside.strings = (c.alike_strings.ensures.keys c.args.strings.now c.self.inside.strings).0 (sym c.eq.ensures ∙ c.if-eq.true) in
    rw (← c.self.view_is) (
      (c.alike_strings.ensures.alike c.self.inside.start c.args.start.now c.position.ensures.board c.position-2.ensures.board c.position.ensures.start c.position-2.ensures.start).1 (sym c.requires ∙ same ∙ c.self.invariant.0),
      refl,
    )
