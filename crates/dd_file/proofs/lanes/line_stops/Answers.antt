use Rattle.std.proofs.Common.{refl}
use Rattle.std.proofs.lemmas.Simd.{zip2_splat}
use Rattle.dd_file.specs.declared.mode.Mode.TheVariants.{Escaped}
use Rattle.dd_file.specs.Quiet.{is_stop}
use Rattle.dd_file.proofs.Stretches.{hit, masked}
use Rattle.dd_file.proofs.lanes.line_stops.Goals as goal

pub returns : goal.returns
returns c = masked _ (is_stop Escaped) c.args.bytes _ c.fits-bytes.0 c.fits-bytes.1 (zip2_splat hit c.args.bytes 16 10 c.fits-bytes.0) refl
