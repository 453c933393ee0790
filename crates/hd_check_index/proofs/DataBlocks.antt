-- Entries and the data block in which the roots that they name stand.
use Rattle.std.proofs.Common.{◌≡◌, ℕ, ◌+◌, List, [], ◌∷◌, ◌++◌, map, Option, Some, None, IfNone, IfSome, true, sym, ap, subst, ◌∙◌, append_assoc}
use Rattle.std.specs.List.{list_all}
use Rattle.std.proofs.lemmas.Bool.{and_parts}
use Rattle.hd_dbd.specs.Hierarchy.{Database}
use Rattle.hd_volume.specs.Volumes.{VolumeState}
use Rattle.hd_volume.specs.Entries.{Entry, entries_at}
use Rattle.hd_links.specs.Links.{IsSegment}
use Rattle.hd_image.specs.IndexFaults.{names_a_root}
use Rattle.hd_image.specs.Records.{links_of}
use Rattle.hd_index_blocks.specs.Fields.{entry_in}
use Rattle.hd_index_blocks.proofs.EntryLemmas.{entries-more}
use Rattle.hd_check_index.specs.DataBlocks.{FirstNameRoots, AreFirstNoted}
use Rattle.hd_check_index.proofs.EntrySteps.{root-there, all-more, addresses-more}

-- what is judged of a key and an address is so of the entry that has them
pub judged-entry : (d : Database) (v : VolumeState) (key : List ℕ) (address : ℕ) (e : Entry) → key ≡ e.key → address ≡ e.address
    → names_a_root d (links_of d.types v) (record { key = key; address = address }) ≡ true → names_a_root d (links_of d.types v) e ≡ true
judged-entry d v key address e own at h = sym (ap (λ (x : Entry). names_a_root d (links_of d.types v) x) (λ j. record { key = own j; address = at j })) ∙ h

-- one more entry names a root
pub root-more : (d : Database) (v : VolumeState) (k i : ℕ) (b : List ℕ) → FirstNameRoots d v k b i → names_a_root d (links_of d.types v) (entry_in k b i) ≡ true → FirstNameRoots d v k b (i + 1)
root-more d v k i b before one =
    subst (λ (xs : List Entry). list_all (λ (e : Entry). names_a_root d (links_of d.types v) e) xs ≡ true) (sym (entries-more k b 12 i))
    (all-more (λ (e : Entry). names_a_root d (links_of d.types v) e) (entries_at k b 12 i) (entry_in k b i) before one)

-- what one more entry names is noted
pub noted-more : (before named named2 : List ℕ) (k i address : ℕ) (b : List ℕ) → named2 ≡ named ++ (address ∷ []) → address ≡ (entry_in k b i).address → AreFirstNoted before k b i named
    → AreFirstNoted before k b (i + 1) named2
noted-more before named named2 k i address b pushed at is =
    let es : List Entry = entries_at k b 12 i in
    let e : Entry = entry_in k b i in
    pushed ∙ ap (λ (ns : List ℕ). ns ++ (address ∷ [])) is ∙ append_assoc before (map (λ (x : Entry). x.address) es) (address ∷ [])
    ∙ ap (λ (a : ℕ). before ++ (map (λ (x : Entry). x.address) es ++ (a ∷ []))) at
    ∙ ap (λ (ns : List ℕ). before ++ ns) (sym (addresses-more es e) ∙ ap (λ (xs : List Entry). map (λ (x : Entry). x.address) xs) (sym (entries-more k b 12 i)))

-- what holds of a number that is there
pub when-some : (P : ℕ → Type 0) (o : Option ℕ) (x : ℕ) → o ≡ Some x → IfSome o P → P x
when-some P (Some y) x is h = subst P (let e : Some y ≡ Some x = is in cc) h
when-some P None x is h = absurd (let e : None ≡ Some x = is in cc)

-- what an entry names is a segment, if it names a root
pub named-there : (d : Database) (v : VolumeState) (a : ℕ) (key : List ℕ) → names_a_root d (links_of d.types v) (record { key = key; address = a }) ≡ true → IsSegment (links_of d.types v) a
named-there d v a key h = (root-there d.types v a (and_parts _ _ h).0).0

-- and what holds where none is
pub when-none : (P : Type 0) (o : Option ℕ) → o ≡ None → IfNone o P → P
when-none P None is h = h
when-none P (Some y) is h = absurd (let e : Some y ≡ None = is in cc)
