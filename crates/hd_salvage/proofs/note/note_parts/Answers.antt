use Rattle.std.proofs.Common.{◌≡◌, ℕ, List, ◌∷◌, inl, inr, sym, subst}
use Rattle.hd_block.specs.declared.parts.Part.{Part}
use Rattle.hd_block.specs.declared.parts.Part.TheVariants.{Used}
use Rattle.hd_salvage.proofs.Noting.{IsAmong, notes-more}
use Rattle.hd_salvage.proofs.note.note_parts.Goals as goal

pub loop-part-preserved-in_ok-note_segment : goal.loop-part-preserved-in_ok-note_segment
loop-part-preserved-in_ok-note_segment c =
    let steps : c.loop-part.part-iterator ≡ c.in-Some.part ∷ c.next.new.self = c.in-Some.ensures.steps in
    record {
      noted = notes-more c.args.sizes.now c.args.block.now c.args.n c.in-Used.place c.in-Used.size c.args.records.now.items c.loop-part.records.items c.note_segment.new.records.items c.requires.data
          (c.loop-part.invariant.left c.in-Used.place c.in-Used.size (subst (λ (xs : List Part). IsAmong (Used c.in-Used.place c.in-Used.size) xs) (sym steps) (inl (sym c.in-Used.is))))
          c.loop-part.invariant.noted c.in_ok-note_segment.ensures.noted;
      left = λ place size i. c.loop-part.invariant.left place size (subst (λ (xs : List Part). IsAmong (Used place size) xs) (sym steps) (inr i));
    }

pub loop-part-preserved : goal.loop-part-preserved
loop-part-preserved c =
    let steps : c.loop-part.part-iterator ≡ c.in-Some.part ∷ c.next.new.self = c.in-Some.ensures.steps in
    record {
      noted = c.loop-part.invariant.noted;
      left = λ place size i. c.loop-part.invariant.left place size (subst (λ (xs : List Part). IsAmong (Used place size) xs) (sym steps) (inr i));
    }
