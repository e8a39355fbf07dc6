use Rattle.std.proofs.Common.{ℕ, leb, cond, refl}
use Rattle.std.proofs.lemmas.Simd.{zip2_of_maps, zip2_splat}
use lib.Bits.{bit_and}
use Rattle.dd_file.specs.Quiet.{ends_name}
use Rattle.dd_file.proofs.Stretches.{masked, splat_is}
use Rattle.dd_file.proofs.lanes.name_stops.Goals as goal

pub returns : goal.returns
returns c =
    let v = c.args.bytes in
    let long = c.fits-bytes.0 in
    masked _ ends_name v _ long c.fits-bytes.1
    (zip2_of_maps bit_and _ _ v (zip2_of_maps bit_and _ _ v
    (zip2_of_maps (λ a b. cond (leb a b) 255 0) _ _ v (splat_is v 26 long) (zip2_of_maps _ _ _ v (zip2_splat {Y = ℕ} _ v 16 32 long) (splat_is v 97 long)))
    (zip2_of_maps (λ a b. cond (leb a b) 255 0) _ _ v (splat_is v 10 long) (zip2_splat {Y = ℕ} _ v 16 48 long)))
    (zip2_splat {Y = ℕ} _ v 16 95 long)) refl
