use Rattle.std.proofs.Common.{◌≡◌, ◌≤◌, arith, subst, true}
use Rattle.std.specs.Prelude.{IfSome}
use Rattle.dd_quick.specs.QuickTricks.{RestsOnNext, cashed, is_entry, partners_cashed}
use Rattle.dd_quick.specs.Sharing.{shares}
use Rattle.dd_quick.proofs.told_shares.with_next.Goals as goal

pub returns-then-tricks-eq0-clause-few : goal.returns-then-tricks-eq0-clause-few
returns-then-tricks-eq0-clause-few c = (let same = c.share_of-tricks.ensures in let none = c.if-tricks-eq0.true in omega (arith, same, none))

pub returns-then-tricks-eq0-clause-all : goal.returns-then-tricks-eq0-clause-all
returns-then-tricks-eq0-clause-all c = λ some. absurd (let same = c.share_of-tricks.ensures in let none = c.if-tricks-eq0.true in omega (arith, same, none, some))

pub returns-then-tricks-eq0-clause-bound : goal.returns-then-tricks-eq0-clause-bound
returns-then-tricks-eq0-clause-bound c = (let same = c.share_of-tricks.ensures in let none = c.if-tricks-eq0.true in omega (arith, same, none))

pub returns-then-tricks-eq0-clause-rests : goal.returns-then-tricks-eq0-clause-rests
returns-then-tricks-eq0-clause-rests c = (let same = c.share_of-tricks.ensures in let none = c.if-tricks-eq0.true in omega (arith, same, none))

pub returns-clause-few : goal.returns-clause-few
returns-clause-few c = subst (λ n. IfSome c.with_some_next.result (λ h. n ≤ partners_cashed c.args.position.now.strain c.args.position.now c.args.suit)) c.share_of-tricks.ensures c.with_some_next.ensures.few

pub returns-clause-all : goal.returns-clause-all
returns-clause-all c = subst (λ n. IfSome c.with_some_next.result (λ h. 1 ≤ n → shares c.args.told.spades c.args.told.hearts c.args.told.diamonds c.args.told.clubs c.args.suit ≡ cashed c.args.position.now.strain c.args.position.now c.args.suit)) c.share_of-tricks.ensures
    (subst (λ m. IfSome c.with_some_next.result (λ h. 1 ≤ c.share_of-tricks.result → m ≡ cashed c.args.position.now.strain c.args.position.now c.args.suit)) c.share_of-all.ensures c.with_some_next.ensures.all)

pub returns-clause-bound : goal.returns-clause-bound
returns-clause-bound c = subst (λ n. IfSome c.with_some_next.result (λ h. n ≤ 13)) c.share_of-tricks.ensures c.with_some_next.ensures.bound

pub returns-clause-rests : goal.returns-clause-rests
returns-clause-rests c = subst (λ n. IfSome c.with_some_next.result (λ h. RestsOnNext c.args.position.now c.args.suit h.cards n)) c.share_of-tricks.ensures c.with_some_next.ensures.rests

pub returns-clause-entry : goal.returns-clause-entry
returns-clause-entry c = subst (λ n. IfSome c.with_some_next.result (λ h. h.entry ≡ true → (is_entry c.args.position.now c.args.suit ≡ true) × (1 ≤ n))) c.share_of-tricks.ensures c.with_some_next.ensures.entry
