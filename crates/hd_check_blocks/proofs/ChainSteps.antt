-- One step along the free elements of a block.
use Rattle.std.proofs.Common.{◌≢◌, ℕ, ◌+◌, ◌<◌, List, [], ◌∷◌, refl, sym, subst}
use Rattle.hd_bytes.specs.Numbers.{number_at}
use Rattle.hd_image.specs.BlockFaults.{IsElementAt, AreFreeElements}

-- A chain that goes on: its next element, and the chain behind it.
pub record GoesOn (block : List ℕ) (end next : ℕ) : Type 0 where
  pub past : end < next
  pub element : IsElementAt block next
  pub rest : List ℕ
  pub chain : AreFreeElements block (next + number_at 2 block (next + 2)) (number_at 2 block next) rest

-- a chain that does not end has a next element
pub goes-on : (block : List ℕ) (end next : ℕ) (places : List ℕ) → AreFreeElements block end next places → next ≢ 0 → GoesOn block end next
goes-on block end next [] h some = absurd (some h)
goes-on block end next (p ∷ ps) h some =
    subst (GoesOn block end) (sym h.0) (record { past = h.1; element = h.2; rest = ps; chain = h.3 })

-- an element before a chain makes a chain
pub one-more : (block : List ℕ) (end next : ℕ) (places : List ℕ) → end < next → IsElementAt block next
    → AreFreeElements block (next + number_at 2 block (next + 2)) (number_at 2 block next) places → AreFreeElements block end next (next ∷ places)
one-more block end next places past element chain = (refl, past, element, chain)
