-- Depths give their bits back.
use Rattle.std.proofs.Common.{◌≡◌, ℕ, ap}
use Rattle.dd_rank.specs.DepthMasks.{AreTops, depths_in, tops_of}
use Rattle.dd_rank.specs.declared.depths.Depths.TheInside.{Inside}

-- so depths are told by how many there are of each suit
pub tops_of-inside : (d : Inside) → AreTops d.tops → record { tops = tops_of (depths_in d.tops) } ≡ d
tops_of-inside d valid =
    let P : ℕ → Inside = λ n. record { tops = n } in
    ap P valid.highest
