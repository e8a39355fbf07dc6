use Rattle.std.proofs.Common.{◌≡◌, ◌≤◌, ◌-◌, ◌∙◌, ℕ, arith, length, min, refl, subst, sym}
use Rattle.std.specs.Prelude.{filter, nat_le}
use Rattle.dd_cards.specs.declared.seat.Seat.{Seat}
use Rattle.dd_cards.specs.declared.strain.Strain.{Strain}
use Rattle.dd_cards.specs.declared.strain.Strain.TheVariants.{Notrump}
use Rattle.dd_play.specs.Board.{Board}
use Rattle.dd_quick.specs.QuickTricks.{greatest, joint_trumps}
use Rattle.dd_quick.proofs.Sound.{rank-joint}
use Rattle.dd_quick.proofs.TrumpRanks.{joint-is, none-rest, rank-rests, their-ranks}
use Rattle.dd_quick.proofs.joint_trumps.with_joint_trumps.Goals as goal
use Rattle.dd_quick.proofs.joint_trumps.with_joint_trumps.Goals.{In_ok-rank}

pub returns-then-tricks-eq0-clause-few : goal.returns-then-tricks-eq0-clause-few
returns-then-tricks-eq0-clause-few c = (let none = c.if-tricks-eq0.true in omega (arith, none))

pub returns-then-tricks-eq0-clause-trumps : goal.returns-then-tricks-eq0-clause-trumps
returns-then-tricks-eq0-clause-trumps c = none-rest c.args.position.now.strain c.args.position.now c.args.seat c.args.cards c.args.tricks c.if-tricks-eq0.true

-- without trumps there are none
no-joint : (strain : Strain) (p : Board) (seat : Seat) → strain ≡ Notrump → joint_trumps strain p seat ≡ 0
no-joint strain p seat is = rw is refl

pub returns-in_default-clause-found : goal.returns-in_default-clause-found
returns-in_default-clause-found c few = absurd (let none = no-joint c.args.position.now.strain c.args.position.now c.args.seat (sym c.strain.ensures ∙ c.in_default.is) in let some = c.if-tricks-eq0.false in omega (arith, few, none, some))

pub returns-in_err-rank-clause-found : goal.returns-in_err-rank-clause-found
returns-in_err-rank-clause-found c few =
    let p = c.args.position.now in
    let t = c.in-Trump.trump in
    let f : ℕ → ℕ = λ rank. min (length (filter (nat_le rank) c.of_side-ours.result)) c.longer-longer.result - length (filter (nat_le rank) c.of_side-theirs.result) in
    let joint = joint-is p.strain p c.args.seat t c.of_side-ours.result c.of_side-theirs.result c.longer-longer.result (greatest f c.of_side-ours.result) (sym c.strain.ensures ∙ c.in-Trump.is) c.of_side-ours.ensures.real
    c.of_side-ours.ensures.from (λ r. c.of_side-theirs.ensures.from r ∙ their-ranks p c.args.seat c.left-left.result t r c.left-left.ensures) c.longer-longer.ensures.longer refl in
    let none = c.in_err-rank.ensures (omega (arith, few, joint)) in
    let some = c.if-tricks-eq0.false in
    absurd (omega (arith, none, some))

-- the trumps from the rank on take so many
taken : (c : In_ok-rank) → c.args.tricks ≤ joint_trumps c.args.position.now.strain c.args.position.now c.args.seat
taken c =
    let p = c.args.position.now in
    let t = c.in-Trump.trump in
    let mine = c.of_side-ours.ensures.from c.in_ok-rank.rank in
    let others = c.of_side-theirs.ensures.from c.in_ok-rank.rank ∙ their-ranks p c.args.seat c.left-left.result t c.in_ok-rank.rank c.left-left.ensures in
    let long = c.longer-longer.ensures.longer in
    let enough = c.in_ok-rank.ensures in
    subst (λ s. c.args.tricks ≤ joint_trumps s p c.args.seat) (sym (sym c.strain.ensures ∙ c.in-Trump.is)) (rank-joint t p c.args.seat c.in_ok-rank.rank c.args.tricks c.of_side-ours.ensures.board (omega (arith, mine, others, long, enough)))

pub returns-then-length-eq0-2-clause-few : goal.returns-then-length-eq0-2-clause-few
returns-then-length-eq0-2-clause-few c = taken (goal.at.returns-then-length-eq0-2-clause-few c).In_ok-rank

pub returns-clause-few : goal.returns-clause-few
returns-clause-few c = taken (goal.at.returns-clause-few c).In_ok-rank

pub returns-clause-trumps : goal.returns-clause-trumps
returns-clause-trumps c =
    let p = c.args.position.now in
    let t = c.in-Trump.trump in
    rank-rests p.strain p c.args.seat t c.of_side-ours.result c.of_side-theirs.result c.longer-longer.result c.args.tricks c.in_ok-rank.rank c.with_trump.result (sym c.strain.ensures ∙ c.in-Trump.is)
    c.of_side-ours.ensures.from (λ r. c.of_side-theirs.ensures.from r ∙ their-ranks p c.args.seat c.left-left.result t r c.left-left.ensures) c.longer-longer.ensures.longer c.in_ok-rank.ensures c.with_trump.ensures.there
