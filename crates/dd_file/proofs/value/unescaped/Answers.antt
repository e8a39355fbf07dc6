use Rattle.std.proofs.Common.{◌∙◌, ℕ, List, ◌++◌, ap, take}
use Rattle.dd_file.proofs.Calm.{unescaped-front}
use Rattle.dd_file.proofs.value.unescaped.Goals as goal

pub loop-byte-init : goal.loop-byte-init
loop-byte-init c =
    let front = c.in_ok-extend_from_slice.ensures.items ∙ ap (λ (l : List ℕ). l ++ take c.saturating_sub.result c.args.quoted.now) c.in_ok-text.ensures.items in
    unescaped-front c.args.quoted.now c.after_quoted-rest.result.now c.saturating_sub.result c.extend_from_slice.new.self.items c.after_quoted-rest.ensures c.saturating_sub.ensures front
