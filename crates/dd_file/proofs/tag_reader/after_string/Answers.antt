use Rattle.std.proofs.Common.{◌∙◌, ap, sym}
use Rattle.dd_file.specs.declared.mode.Mode.{Mode}
use Rattle.dd_file.specs.declared.mode.Mode.TheVariants.{Quoted}
use Rattle.dd_file.specs.Tags.{after_string}
use Rattle.dd_file.proofs.Calm.{calm-behind, quoted-calm, string-quoted}
use Rattle.dd_file.proofs.Steps.{after_string-closed, after_string-broken, after_string-other, after_string-end}
use Rattle.dd_file.proofs.tag_reader.after_string.Goals as goal

pub loop-rest-init : goal.loop-rest-init
loop-rest-init c = ap (after_string Quoted) c.after_quoted-rest.ensures ∙ quoted-calm c.args.text.now

pub returns-in-Plain : goal.returns-in-Plain
returns-in-Plain c = sym c.loop-rest.invariant ∙ after_string-closed _ _ c.in-len1-up.len_at_least (sym c.next-mode.ensures ∙ c.in-Plain.is)

pub returns-in-Start : goal.returns-in-Start
returns-in-Start c = sym c.loop-rest.invariant ∙ after_string-broken _ _ c.in-len1-up.len_at_least (sym c.next-mode.ensures ∙ c.in-Start.is)

pub loop-rest-preserved : goal.loop-rest-preserved
loop-rest-preserved c =
    rw c.next-mode.ensures (sym (after_string-other _ _ c.in-len1-up.len_at_least
    (λ is. c.in_default-mode.not-Plain (c.next-mode.ensures ∙ is)) (λ is. c.in_default-mode.not-Start (c.next-mode.ensures ∙ is))) ∙ c.loop-rest.invariant)

pub loop-rest-smaller-in-Quoted : goal.loop-rest-smaller-in-Quoted
loop-rest-smaller-in-Quoted c = calm-behind Quoted c.loop-rest.rest.now _ c.in-len1-up.len_at_least c.after_quoted-rest-in-Quoted.ensures

pub loop-rest-preserved-in-Quoted : goal.loop-rest-preserved-in-Quoted
loop-rest-preserved-in-Quoted c =
    ap (λ (m : Mode). after_string m c.after_quoted-rest-in-Quoted.result.now) c.in-Quoted.is
    ∙ string-quoted c.loop-rest.mode c.loop-rest.rest.now _ c.in-len1-up.len_at_least (sym c.next-mode.ensures ∙ c.in-Quoted.is) c.after_quoted-rest-in-Quoted.ensures
    ∙ c.loop-rest.invariant

pub returns : goal.returns
returns c = sym c.loop-rest.invariant ∙ after_string-end _ _ c.in_default.len_below
