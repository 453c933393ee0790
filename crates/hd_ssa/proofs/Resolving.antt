-- What SSAs mean is what their heads mean, as the PCB sees them.
use Rattle.std.proofs.Common.{◌≡◌, ◌≤◌, ℕ, List, [], length, Bool, true, false, Option, Some, None, ap, ◌∙◌, sym, refl, cond}
use Rattle.std.specs.Prelude.{nat_le, not, ◌||◌, option_map, option_and_then, Ok, Err}
use Rattle.std.specs.Option.{ok_or}
use Rattle.std.proofs.lemmas.Bool.{le-leb}
use Rattle.std.proofs.lemmas.List.{length-map}
use Rattle.hd_dbd.specs.Views.{Setting}
use Rattle.hd_dbd.specs.declared.answer.Status.TheVariants.{AC, AJ}
use Rattle.hd_calls.specs.declared.call.Function.{Function}
use Rattle.hd_calls.specs.declared.call.Function.TheVariants.{Get, Insert, Replace, Delete}
use Rattle.hd_calls.specs.Access.{loads}
use Rattle.hd_calls.specs.Functions.{result_and_then, ok_if}
use Rattle.hd_calls.specs.Ssas.{Head, read_heads, heads_suit, codes_below, codes_of, types_suit, read_ssas, resolve}
use Rattle.hd_ssa.specs.Named.{Named, named, all_named, named_heads, heads_in, codes_down, resolve_named}
use Rattle.hd_ssa.proofs.Heads.{named_all, suit_named, codes_named, types_named, ssas_named}

module _ (s : Setting) (f : Function) where
  -- the types and the qualifications of heads
  behind_heads : (hs : List Head)
      → result_and_then (ok_if (nat_le (length (all_named s hs)) 15) AC (all_named s hs)) (λ ns. result_and_then (ok_or (codes_down s.types None ns) AC) (λ cs.
      result_and_then (ok_if (types_suit s f (heads_in ns) cs) AC cs) (λ cs. read_ssas s cs (heads_in ns))))
      ≡ result_and_then (ok_or (codes_of s f hs) AC) (λ cs. read_ssas s cs hs)
  behind_heads hs =
      ap (λ n. result_and_then (ok_if (nat_le n 15) AC (all_named s hs)) (λ ns. result_and_then (ok_or (codes_down s.types None ns) AC) (λ cs.
      result_and_then (ok_if (types_suit s f (heads_in ns) cs) AC cs) (λ cs. read_ssas s cs (heads_in ns))))) (length-map hs (λ h. named s h))
      ∙ by_count (nat_le (length hs) 15)
    where
      by_codes : (o : Option (List ℕ))
          → result_and_then (ok_or o AC) (λ cs. result_and_then (ok_if (types_suit s f (heads_in (all_named s hs)) cs) AC cs) (λ cs. read_ssas s cs (heads_in (all_named s hs))))
          ≡ result_and_then (ok_or (option_and_then (λ cs. cond (types_suit s f hs cs) (Some cs) None) o) AC) (λ cs. read_ssas s cs hs)
      by_codes None = refl
      by_codes (Some cs) =
          ap (λ b. result_and_then (ok_if b AC cs) (λ cs. read_ssas s cs (heads_in (all_named s hs)))) (types_named s f hs cs) ∙ by_types (types_suit s f hs cs)
        where
          by_types : (b : Bool) → result_and_then (ok_if b AC cs) (λ cs. read_ssas s cs (heads_in (all_named s hs))) ≡ result_and_then (ok_or (cond b (Some cs) None) AC) (λ cs. read_ssas s cs hs)
          by_types true = ssas_named s cs hs
          by_types false = refl

      by_count : (b : Bool)
          → result_and_then (ok_if b AC (all_named s hs)) (λ ns. result_and_then (ok_or (codes_down s.types None ns) AC) (λ cs. result_and_then (ok_if (types_suit s f (heads_in ns) cs) AC cs) (λ cs. read_ssas s cs (heads_in ns))))
          ≡ result_and_then (ok_or (cond b (option_and_then (λ cs. cond (types_suit s f hs cs) (Some cs) None) (codes_below s None hs)) None) AC) (λ cs. read_ssas s cs hs)
      by_count true = by_codes (codes_down s.types None (all_named s hs))
          ∙ ap (λ o. result_and_then (ok_or (option_and_then (λ cs. cond (types_suit s f hs cs) (Some cs) None) o) AC) (λ cs. read_ssas s cs hs)) (codes_named s None hs)
      by_count false = refl

  -- the whole, by the heads
  by_heads : (o : Option (List Head))
      → result_and_then (ok_or (option_and_then (λ hs. cond (heads_suit s f hs) (Some hs) None) o) AJ) (λ hs. result_and_then (ok_or (codes_of s f hs) AC) (λ cs. read_ssas s cs hs))
      ≡ result_and_then (ok_or (option_map (λ hs. all_named s hs) o) AJ) (λ ns. resolve_named s f ns)
  by_heads None = refl
  by_heads (Some hs) =
      by_suit (heads_suit s f hs)
      ∙ sym (ap (λ b. result_and_then (ok_if b AJ (all_named s hs)) (λ ns. result_and_then (ok_if (nat_le (length ns) 15) AC ns) (λ ns. result_and_then (ok_or (codes_down s.types None ns) AC) (λ cs.
      result_and_then (ok_if (types_suit s f (heads_in ns) cs) AC cs) (λ cs. read_ssas s cs (heads_in ns)))))) (suit_named s f hs))
    where
      by_suit : (b : Bool)
          → result_and_then (ok_or (cond b (Some hs) None) AJ) (λ hs. result_and_then (ok_or (codes_of s f hs) AC) (λ cs. read_ssas s cs hs))
          ≡ result_and_then (ok_if b AJ (all_named s hs)) (λ ns. result_and_then (ok_if (nat_le (length ns) 15) AC ns) (λ ns. result_and_then (ok_or (codes_down s.types None ns) AC) (λ cs.
          result_and_then (ok_if (types_suit s f (heads_in ns) cs) AC cs) (λ cs. read_ssas s cs (heads_in ns)))))
      by_suit true = sym (behind_heads hs)
      by_suit false = refl

  resolved_is : (texts : List (List ℕ)) → resolve s f texts ≡ result_and_then (ok_or (named_heads s texts) AJ) (λ ns. resolve_named s f ns)
  resolved_is texts = by_heads (read_heads texts) ∙ ap (λ o. result_and_then (ok_or o AJ) (λ ns. resolve_named s f ns)) (sym (named_all s texts))

  pub resolve_heads : (texts : List (List ℕ)) (ns : List Named) → named_heads s texts ≡ Some ns → resolve s f texts ≡ resolve_named s f ns
  resolve_heads texts ns is = resolved_is texts ∙ ap (λ o. result_and_then (ok_or o AJ) (λ ns. resolve_named s f ns)) is

  pub resolve_no_heads : (texts : List (List ℕ)) → named_heads s texts ≡ None → resolve s f texts ≡ Err AJ
  resolve_no_heads texts is = resolved_is texts ∙ ap (λ o. result_and_then (ok_or o AJ) (λ ns. resolve_named s f ns)) is

  -- heads that pass each test mean what their qualifications say
  pub resolve_through : (ns : List Named) (cs : List ℕ) → heads_suit s f (heads_in ns) ≡ true → length ns ≤ 15 → codes_down s.types None ns ≡ Some cs → types_suit s f (heads_in ns) cs ≡ true
      → resolve_named s f ns ≡ read_ssas s cs (heads_in ns)
  resolve_through ns cs suit few codes types =
      ap (λ b. result_and_then (ok_if b AJ ns) (λ ns. result_and_then (ok_if (nat_le (length ns) 15) AC ns) (λ ns. result_and_then (ok_or (codes_down s.types None ns) AC) (λ cs.
      result_and_then (ok_if (types_suit s f (heads_in ns) cs) AC cs) (λ cs. read_ssas s cs (heads_in ns)))))) suit
      ∙ ap (λ b. result_and_then (ok_if b AC ns) (λ ns. result_and_then (ok_or (codes_down s.types None ns) AC) (λ cs.
      result_and_then (ok_if (types_suit s f (heads_in ns) cs) AC cs) (λ cs. read_ssas s cs (heads_in ns))))) (le-leb (length ns) 15 few)
      ∙ ap (λ o. result_and_then (ok_or o AC) (λ cs. result_and_then (ok_if (types_suit s f (heads_in ns) cs) AC cs) (λ cs. read_ssas s cs (heads_in ns)))) codes
      ∙ ap (λ b. result_and_then (ok_if b AC cs) (λ cs. read_ssas s cs (heads_in ns))) types

-- no text means no argument
pub resolve_nothing : (s : Setting) (f : Function) → resolve s f [] ≡ Ok []
resolve_nothing s (Get kind hold) = refl
resolve_nothing s Insert =
    ap (λ b. result_and_then (ok_or (cond b (Some []) None) AJ) (λ hs. result_and_then (ok_or (codes_of s Insert hs) AC) (λ cs. read_ssas s cs hs))) (or_true (not (loads s.pcb)))
  where
    or_true : (b : Bool) → (b || true) ≡ true
    or_true true = refl
    or_true false = refl
resolve_nothing s Replace = refl
resolve_nothing s Delete = refl
