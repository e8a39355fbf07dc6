use Rattle.std.proofs.Common.{◌≡◌, ◌∷◌, ◌++◌, ◌∙◌, List, ℕ, refl, ap}
use Rattle.std.specs.Prelude.{codes}
use Rattle.dd_wire.specs.declared.usual_reader.KeyName.{KeyName}
use Rattle.dd_wire.specs.UsualLines.{key_text}
use Rattle.dd_wire.proofs.UsualValues.{if-some}
use Rattle.dd_wire.proofs.UsualFields.{adds-at}
use Rattle.dd_wire.proofs.usual_reader.read_member.Goals as goal

-- the key's text, where it is this key
at-key : (text rest : List ℕ) (key this : KeyName) → text ≡ 34 ∷ (key_text key ++ 34 ∷ 58 ∷ rest) → key ≡ this → text ≡ 34 ∷ (key_text this ++ 34 ∷ 58 ∷ rest)
at-key text rest key this stands is = stands ∙ ap (λ (k : KeyName). 34 ∷ (key_text k ++ 34 ∷ 58 ∷ rest)) is

pub returns-in-Deal : goal.returns-in-Deal
returns-in-Deal c =
    if-some _ _ _ c.put_text.ensures (λ rest puts. adds-at 0 (codes "deal") _ _ (at-key c.args.text.now c.in_ok-key.rest.now _ _ c.in_ok-key.ensures c.in-Deal.is) puts refl refl refl refl refl)

pub returns-in-Dealer : goal.returns-in-Dealer
returns-in-Dealer c =
    if-some _ _ _ c.put_number.ensures (λ rest puts. adds-at 1 (codes "dealer") _ _ (at-key c.args.text.now c.in_ok-key.rest.now _ _ c.in_ok-key.ensures c.in-Dealer.is) puts refl refl refl refl refl)

pub returns-in-Do : goal.returns-in-Do
returns-in-Do c =
    if-some _ _ _ c.put_task.ensures (λ rest puts. adds-at 2 (codes "do") _ _ (at-key c.args.text.now c.in_ok-key.rest.now _ _ c.in_ok-key.ensures c.in-Do.is) puts refl refl refl refl refl)

pub returns-in-First : goal.returns-in-First
returns-in-First c =
    if-some _ _ _ c.put_number-in-First.ensures (λ rest puts. adds-at 3 (codes "first") _ _ (at-key c.args.text.now c.in_ok-key.rest.now _ _ c.in_ok-key.ensures c.in-First.is) puts refl refl refl refl refl)

pub returns-in-Job : goal.returns-in-Job
returns-in-Job c =
    if-some _ _ _ c.put_number-in-Job.ensures (λ rest puts. adds-at 4 (codes "job") _ _ (at-key c.args.text.now c.in_ok-key.rest.now _ _ c.in_ok-key.ensures c.in-Job.is) puts refl refl refl refl refl)

pub returns-in-Played : goal.returns-in-Played
returns-in-Played c =
    if-some _ _ _ c.put_played.ensures (λ rest puts. adds-at 5 (codes "played") _ _ (at-key c.args.text.now c.in_ok-key.rest.now _ _ c.in_ok-key.ensures c.in-Played.is) puts refl refl refl refl refl)

pub returns-in-Side : goal.returns-in-Side
returns-in-Side c =
    if-some _ _ _ c.put_number-in-Side.ensures (λ rest puts. adds-at 6 (codes "side") _ _ (at-key c.args.text.now c.in_ok-key.rest.now _ _ c.in_ok-key.ensures c.in-Side.is) puts refl refl refl refl refl)

pub returns-in-Solutions : goal.returns-in-Solutions
returns-in-Solutions c =
    if-some _ _ _ c.put_number-in-Solutions.ensures (λ rest puts. adds-at 7 (codes "solutions") _ _ (at-key c.args.text.now c.in_ok-key.rest.now _ _ c.in_ok-key.ensures c.in-Solutions.is) puts refl refl refl refl refl)

pub returns-in-Table : goal.returns-in-Table
returns-in-Table c =
    if-some _ _ _ c.put_table.ensures (λ rest puts. adds-at 8 (codes "table") _ _ (at-key c.args.text.now c.in_ok-key.rest.now _ _ c.in_ok-key.ensures c.in-Table.is) puts refl refl refl refl refl)

pub returns-in-Target : goal.returns-in-Target
returns-in-Target c =
    if-some _ _ _ c.put_number-in-Target.ensures (λ rest puts. adds-at 9 (codes "target") _ _ (at-key c.args.text.now c.in_ok-key.rest.now _ _ c.in_ok-key.ensures c.in-Target.is) puts refl refl refl refl refl)

pub returns-in-Trump : goal.returns-in-Trump
returns-in-Trump c =
    if-some _ _ _ c.put_number-in-Trump.ensures (λ rest puts. adds-at 10 (codes "trump") _ _ (at-key c.args.text.now c.in_ok-key.rest.now _ _ c.in_ok-key.ensures c.in-Trump.is) puts refl refl refl refl refl)

pub returns-in-Vulnerable : goal.returns-in-Vulnerable
returns-in-Vulnerable c =
    if-some _ _ _ c.put_number-in-Vulnerable.ensures (λ rest puts. adds-at 11 (codes "vulnerable") _ _ (at-key c.args.text.now c.in_ok-key.rest.now _ _ c.in_ok-key.ensures c.in-Vulnerable.is) puts refl refl refl refl refl)

pub returns-in-Wait : goal.returns-in-Wait
returns-in-Wait c =
    if-some _ _ _ c.put_number-in-Wait.ensures (λ rest puts. adds-at 12 (codes "wait") _ _ (at-key c.args.text.now c.in_ok-key.rest.now _ _ c.in_ok-key.ensures c.in-Wait.is) puts refl refl refl refl refl)
