-- What is so of the number of a refusal: it is not 0, it has eight bits, and 6 is of one cause alone.
use mathlib.Core.Path.{◌≡◌, refl}
use Prim.Native.Nat.{◌<◌}
use native.Mathlib.Omega.{arith}
use Rattle.refusals.specs.declared.Refusal.{Refusal}
use Rattle.refusals.specs.declared.Refusal.TheVariants.{LeafCount as Count, InputLength, OutputRoom, Diagonal, Halves}
use Rattle.refusals.specs.declared.Refusal.TheVariants.{NoTree, Child, NamedBefore, Question, Record, PairingCode}
use Rattle.refusals.specs.declared.Refusal.TheVariants.{Proposal, SheetEnds, SheetLength, Name, SameName}
use Rattle.refusals.specs.declared.Refusal.TheVariants.{Grammar, NotBinary, Unmatched, NotOwn}
use Rattle.refusals.specs.Refusals.{number_of}
use Rattle.replies.specs.Replies.{eight_bits}

pub numbered : (r : Refusal) → (0 < number_of r) × (number_of r < eight_bits) × (number_of r ≡ 6 → r ≡ NoTree)
numbered Count = (omega arith, omega arith, λ h. absurd (omega arith))
numbered InputLength = (omega arith, omega arith, λ h. absurd (omega arith))
numbered OutputRoom = (omega arith, omega arith, λ h. absurd (omega arith))
numbered (Diagonal i) = (omega arith, omega arith, λ h. absurd (omega arith))
numbered (Halves i j) = (omega arith, omega arith, λ h. absurd (omega arith))
numbered NoTree = (omega arith, omega arith, λ h. refl)
numbered (Child p) = (omega arith, omega arith, λ h. absurd (omega arith))
numbered (NamedBefore p) = (omega arith, omega arith, λ h. absurd (omega arith))
numbered (Question p) = (omega arith, omega arith, λ h. absurd (omega arith))
numbered (Record k) = (omega arith, omega arith, λ h. absurd (omega arith))
numbered (PairingCode k) = (omega arith, omega arith, λ h. absurd (omega arith))
numbered (Proposal k) = (omega arith, omega arith, λ h. absurd (omega arith))
numbered SheetEnds = (omega arith, omega arith, λ h. absurd (omega arith))
numbered SheetLength = (omega arith, omega arith, λ h. absurd (omega arith))
numbered (Name i) = (omega arith, omega arith, λ h. absurd (omega arith))
numbered (SameName i) = (omega arith, omega arith, λ h. absurd (omega arith))
numbered (Grammar k) = (omega arith, omega arith, λ h. absurd (omega arith))
numbered NotBinary = (omega arith, omega arith, λ h. absurd (omega arith))
numbered Unmatched = (omega arith, omega arith, λ h. absurd (omega arith))
numbered NotOwn = (omega arith, omega arith, λ h. absurd (omega arith))
