-- What a text spells, as it is read.
use Rattle.std.proofs.Common.{◌≡◌, ◌↔◌, ℕ, List, refl, sym, Result, Ok, Err}
use Rattle.std.specs.Prelude.{IfOk}
use Rattle.dd_cards.specs.Hands.{FourHands, AreHands}
use Rattle.dd_pbn.specs.declared.fault.PbnFault.{PbnFault}
use Rattle.dd_pbn.specs.Deals.{DealText, DealFault}
use Rattle.dd_pbn.specs.Reading.{outcome, value_of}
use Rattle.dd_pbn.specs.Values.{IsValue}
use Rattle.dd_pbn.proofs.CallerLemmas.{Reads-value, spelled-read, failed-read}

-- the deal that a text spells, or its fault, is what reading it gives
pub outcome-spelled : (text : List ℕ) (result : Result FourHands PbnFault) → IfOk result (λ deal. DealText text deal) → IfOk result (λ deal. AreHands deal)
    → ((fault : PbnFault) → (result ≡ Err fault) ↔ DealFault text fault) → result ≡ outcome (value_of text)
outcome-spelled text (Ok deal) spells are faults = sym (spelled-read (IsValue text) (value_of text) (Reads-value text) deal are spells)
outcome-spelled text (Err fault) spells are faults = sym (failed-read (IsValue text) (value_of text) (Reads-value text) fault ((faults fault).0 refl))
