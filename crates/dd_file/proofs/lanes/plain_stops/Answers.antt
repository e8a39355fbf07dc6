use Rattle.std.proofs.Common.{refl}
use Rattle.std.proofs.lemmas.Simd.{zip2_splat}
use Rattle.dd_file.specs.declared.mode.Mode.TheVariants.{Plain}
use Rattle.dd_file.specs.Quiet.{is_stop}
use Rattle.dd_file.proofs.Stretches.{either, folded, hit, masked}
use Rattle.dd_file.proofs.lanes.plain_stops.Goals as goal

pub returns : goal.returns
returns c =
    let v = c.args.bytes in
    let long = c.fits-bytes.0 in
    masked _ (is_stop Plain) v _ long c.fits-bytes.1
    (either _ _ v (either _ _ v (either _ _ v (zip2_splat hit v 16 10 long) (zip2_splat hit v 16 34 long)) (zip2_splat hit v 16 59 long)) (folded v 123 long)) refl
