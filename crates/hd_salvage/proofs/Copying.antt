-- A volume that is written block by block.
use Rattle.std.proofs.Common.{◌≡◌, ℕ, suc, ◌+◌, ◌*◌, ◌<◌, ◌≤◌, List, length, take, Option, sym, ap, subst, ◌∙◌, arith}
use Rattle.std.specs.Io.KnownBytes.{Appends}
use Rattle.std.proofs.KnownBytes.{Appends-nil, Appends-trans}
use Rattle.std.proofs.Math.Nat.{suc-mul}
use Rattle.std.proofs.Math.Seq.{take-add}
use Rattle.std.proofs.lemmas.Nat.{row_fits}
use Rattle.hd_bytes.specs.Blocks.{block_of, HasBlock}

-- before the first block nothing is written
pub blocks-none : (size : ℕ) (image : List ℕ) (out : Option (List ℕ)) → Appends out out (take (0 * size) image)
blocks-none size image out = (let none : 0 ≡ 0 * size = omega arith in subst (λ (n : ℕ). Appends out out (take n image)) none (Appends-nil out))

-- one block more
pub blocks-more : (size n : ℕ) (image : List ℕ) (before mid after : Option (List ℕ)) → Appends before mid (take (n * size) image) → Appends mid after (block_of size image n)
    → Appends before after (take ((n + 1) * size) image)
blocks-more size n image before mid after front block =
    let one : suc n ≡ n + 1 = omega arith in
    let more : n * size + size ≡ (n + 1) * size = sym (suc-mul n size) ∙ ap (λ (k : ℕ). k * size) one in
    subst (Appends before after) (sym (take-add (n * size) size image) ∙ ap (λ (k : ℕ). take k image) more)
    (Appends-trans before mid after (take (n * size) image) (block_of size image n) front block)

-- a block before so many that are there is there
pub block-there : (size n count : ℕ) (image : List ℕ) → n < count → count * size ≤ length image → HasBlock size image n
block-there size n count image below all = (let fits = row_fits n size count size below (omega arith) in omega arith)
