use Rattle.std.proofs.Common.{sym, ap, ◌∙◌}
use Rattle.std.specs.Option.{option_copied, option_map}
use Rattle.dd_rank.specs.Strings.{shape_in}
use Rattle.dd_shard.specs.Entries.{Tells}
use Rattle.dd_shard.specs.Kept.{entry_of}
use Rattle.dd_shard.specs.Slots.{told_of}
use Rattle.dd_shard.proofs.Told.{told-holds, told-within}
use Rattle.dd_shard.proofs.Kept.{Hit, hit, look-kept, look-found, look-missed}
use Rattle.dd_shard.proofs.shard.Shard.look_by.Goals as goal

pub invariant_of-self : goal.invariant_of-self
invariant_of-self c = rw c.get.follows.holds-at-none (look-kept c.self.inside.cache c.shape.result c.self.invariant)

pub returns-in_err-get-clause-looks : goal.returns-in_err-get-clause-looks
returns-in_err-get-clause-looks c =
    rw (c.get.follows.holds-at-none, ← c.self.view_is)
    (look-missed c.args.position.now c.shape.result c.self.inside.cache (option_map told_of c.from_residual.result) (c.shape.ensures ∙ ap shape_in c.requires)
    (sym c.get.ensures.value ∙ ap option_copied c.in_err-get.was) (ap (option_map told_of) c.from_residual.ensures))

pub look-requires : goal.look-requires
look-requires c = λ x has. ((hit c.shape.result c.self.inside.cache.entries c.in_ok-get.field-0.now c.self.invariant.filed (sym c.get.ensures.value ∙ ap option_copied c.in_ok-get.was)).entry.each x has).of_shape ∙ c.shape.ensures

pub invariant_of-self-2 : goal.invariant_of-self-2
invariant_of-self-2 c = rw c.get.follows.holds-at-none (look-kept c.self.inside.cache c.shape.result c.self.invariant)

-- the shape has these pairs
found : (c : goal.After-self-2-1) → Hit c.shape.result c.self.inside.cache.entries c.in_ok-get.field-0.now
found c = hit c.shape.result c.self.inside.cache.entries c.in_ok-get.field-0.now c.self.invariant.filed (sym c.get.ensures.value ∙ ap option_copied c.in_ok-get.was)

-- they tell what is answered
told : (c : goal.After-self-2-1) → Tells c.args.position.now c.in_ok-get.field-0.now (option_map told_of c.look.result)
told c = c.look.ensures c.args.position.now c.position.ensures.board c.position.ensures.start c.requires

pub returns-clause-looks : goal.returns-clause-looks
returns-clause-looks c =
    rw (c.get.follows.holds-at-none, ← c.self.view_is)
    (look-found c.args.position.now c.shape.result c.self.inside.cache c.in_ok-get.field-0.now (option_map told_of c.look.result) (c.shape.ensures ∙ ap shape_in c.requires) (found c) (told c))

pub returns-clause-holds : goal.returns-clause-holds
returns-clause-holds c = told-holds c.args.position.now (entry_of (c.shape.result, c.in_ok-get.field-0.now)) c.look.result (found c).entry (told c)

pub returns-clause-within : goal.returns-clause-within
returns-clause-within c = told-within c.args.position.now (entry_of (c.shape.result, c.in_ok-get.field-0.now)) c.look.result (found c).entry (told c)
