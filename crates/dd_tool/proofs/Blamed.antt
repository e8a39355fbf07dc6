-- Which device a fault of lines names.
use Rattle.std.proofs.Common.{◌≡◌, Result, Ok, Err, refl, subst}
use Rattle.dd_lines.specs.declared.engine.LineFault.{LineFault}
use Rattle.dd_lines.specs.declared.engine.LineFault.TheVariants.{Read, Write}
use Rattle.dd_tool.specs.Ahead.{Blames}

-- a fault that names a device tells that it has failed, and so what each fault tells is what both tell
pub blamed : (result : Result (Unit {0}) LineFault) (reader writer : Type 0) → (result ≡ Err Read → reader) → (result ≡ Err Write → writer) → Blames result reader writer
blamed (Ok done) reader writer read write = tt
blamed (Err Read) reader writer read write = read refl
blamed (Err Write) reader writer read write = write refl

-- where the reader is named it has failed
pub blames-reader : (result : Result (Unit {0}) LineFault) (reader writer : Type 0) → Blames result reader writer → result ≡ Err Read → reader
blames-reader result reader writer named is = subst (λ (r : Result (Unit {0}) LineFault). Blames r reader writer) is named

-- where the writer is named it has failed
pub blames-writer : (result : Result (Unit {0}) LineFault) (reader writer : Type 0) → Blames result reader writer → result ≡ Err Write → writer
blames-writer result reader writer named is = subst (λ (r : Result (Unit {0}) LineFault). Blames r reader writer) is named
