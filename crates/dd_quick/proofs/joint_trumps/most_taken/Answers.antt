use Rattle.std.proofs.Common.{◌≡◌, ◌∙◌, ◌-◌, arith, length, max, min, sym, ap, subst, []}
use Rattle.std.specs.Prelude.{MatchOption, filter, nat_le, nat_lt, slice_get}
use Rattle.dd_quick.specs.QuickTricks.{greatest}
use Rattle.dd_quick.proofs.Sequences.{enough, none-greatest, round, still}
use Rattle.dd_quick.proofs.joint_trumps.most_taken.Goals as goal

pub returns-then-longer-most : goal.returns-then-longer-most
returns-then-longer-most c = record {
  most = (
      let inv = c.loop-rank.invariant in
      let few = c.if-longer-most.true in
      let k = enough c.args.ours c.args.theirs c.args.longer c.requires.theirs c.requires.apart c.loop-rank.rest c.in-Some.rank c.from-over.result c.loop-rank.most inv.1 (sym c.in-Some.is ∙ c.highest.ensures) c.from-over.ensures.from few in
      let were = inv.0 in
      omega (arith, were, k));
}

pub returns : goal.returns
returns c = record {
  most = (
      let were = c.loop-rank.invariant.0 in
      let k = none-greatest (λ rank. min (length (filter (nat_le rank) c.args.ours)) c.args.longer - length (filter (nat_le rank) c.args.theirs)) c.loop-rank.rest (sym c.highest.ensures ∙ c.in_default.is) in
      omega (arith, were, k));
}

pub loop-rank-smaller : goal.loop-rank-smaller
loop-rank-smaller c =
    let inv = c.loop-rank.invariant in
    let rank = c.in-Some.rank in
    let held = subst (λ l. MatchOption (slice_get l 0) (c.above_all.result ≡ c.args.ours) (λ r. c.above_all.result ≡ filter (λ q. nat_lt r q) c.args.ours)) c.below-lower.ensures c.above_all.ensures in
    let rest = subst (λ l. MatchOption (slice_get l 0) (c.below_highest-rest.result ≡ []) (λ r. c.below_highest-rest.result ≡ filter (λ q. nat_lt q r) c.loop-rank.rest)) c.below-lower.ensures c.below_highest-rest.ensures in
    let now = round c.args.ours c.args.theirs c.args.longer c.requires.theirs c.requires.apart c.loop-rank.rest c.above_all.result c.below_highest-rest.result rank c.from-over.result inv.1 inv.2 (sym c.in-Some.is ∙ c.highest.ensures) c.from-over.ensures.from held rest in
    now.shorter

pub loop-rank-preserved : goal.loop-rank-preserved
loop-rank-preserved c =
    let inv = c.loop-rank.invariant in
    let rank = c.in-Some.rank in
    let held = subst (λ l. MatchOption (slice_get l 0) (c.above_all.result ≡ c.args.ours) (λ r. c.above_all.result ≡ filter (λ q. nat_lt r q) c.args.ours)) c.below-lower.ensures c.above_all.ensures in
    let rest = subst (λ l. MatchOption (slice_get l 0) (c.below_highest-rest.result ≡ []) (λ r. c.below_highest-rest.result ≡ filter (λ q. nat_lt q r) c.loop-rank.rest)) c.below-lower.ensures c.below_highest-rest.ensures in
    let now = round c.args.ours c.args.theirs c.args.longer c.requires.theirs c.requires.apart c.loop-rank.rest c.above_all.result c.below_highest-rest.result rank c.from-over.result inv.1 inv.2 (sym c.in-Some.is ∙ c.highest.ensures) c.from-over.ensures.from held rest in
    let value : c.saturating_sub.result ≡ min (length c.above_all.result) c.args.longer - c.from-over.result = c.saturating_sub.ensures ∙ ap (λ n. n - c.from-over.result) (c.min-held.ensures ∙ ap (λ n. min n c.args.longer) c.len.ensures.len) in
    let whole = still c.args.ours c.args.theirs c.args.longer c.requires.theirs c.requires.apart c.loop-rank.rest c.below_highest-rest.result c.loop-rank.most (min (length c.above_all.result) c.args.longer - c.from-over.result) inv.0 now in
    (ap (λ m. max m (greatest (λ rank. min (length (filter (nat_le rank) c.args.ours)) c.args.longer - length (filter (nat_le rank) c.args.theirs)) c.below_highest-rest.result)) (c.max-most.ensures ∙ ap (max c.loop-rank.most) value) ∙ whole, now.ranks, now.part, (let a = inv.3 in let b = c.max-most.ensures in let d = c.saturating_sub.ensures in let e = c.min-held.ensures in let f = c.len.ensures.bound in omega (arith, a, b, d, e, f)))
