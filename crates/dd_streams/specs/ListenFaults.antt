-- To be believed: what is said of an address that can't be listened at.
use Rattle.std.specs.Prelude.{ℕ, List, codes}
use Rattle.dd_streams.specs.declared.listen_fault.ListenFault.{ListenFault}
use Rattle.dd_streams.specs.declared.listen_fault.ListenFault.TheVariants.{NoAddress, InUse, Elsewhere, NotPermitted, Other}

-- the line that the standard error gets of it
abbrev pub line_of_fault : ListenFault → List ℕ
line_of_fault NoAddress =
    codes "ddserve: listen failed: that is no address; give one as 127.0.0.1:4100 or [::1]:4100\n"
line_of_fault InUse = codes "ddserve: listen failed: the address is in use\n"
line_of_fault Elsewhere = codes "ddserve: listen failed: the address is not one of this machine's\n"
line_of_fault NotPermitted = codes "ddserve: listen failed: not permitted; ports below 1024 often are not\n"
line_of_fault Other = codes "ddserve: listen failed\n"
