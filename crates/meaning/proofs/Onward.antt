-- A host that goes onward: the order of these steps.
use Rattle.std.proofs.Common.{◌≡◌, List, [], ◌∷◌, ◌++◌, sym, refl, ap, ◌∙◌, append_assoc}
use Rattle.std.proofs.lemmas.List.{append-nil}
use Rattle.machine.specs.Host.{Host, Item}
use Rattle.machine.specs.declared.host.Event.{Event}
use Rattle.meaning.specs.Laws.{Begins, Ends, Onward}

begins_refl : {A : Type 0} (xs : List A) → Begins xs xs
begins_refl xs = ([], sym (append-nil xs))

begins_trans : {A : Type 0} (xs ys zs : List A) → Begins xs ys → Begins ys zs → Begins xs zs
begins_trans {A} xs ys zs (p, e) (q, f) = (p ++ q, f ∙ ap (λ (x : List A). x ++ q) e ∙ append_assoc xs p q)

ends_trans : {A : Type 0} (xs ys zs : List A) → Ends xs ys → Ends ys zs → Ends xs zs
ends_trans {A} xs ys zs (p, e) (q, f) = (q ++ p, f ∙ ap (λ (x : List A). q ++ x) e ∙ sym (append_assoc q p xs))

pub onward_refl : (h : Host) → Onward h h
onward_refl h = record { output = begins_refl h.marks; input = ([], refl); room = refl; renders = refl }

pub onward_trans : (h g k : Host) → Onward h g → Onward g k → Onward h k
onward_trans h g k p q = record {
  output = begins_trans h.marks g.marks k.marks p.output q.output;
  input = ends_trans k.items g.items h.items q.input p.input;
  room = q.room ∙ p.room;
  renders = q.renders ∙ p.renders;
}

-- an item is taken
pub onward_taken : (h : Host) (i : Item) (is : List Item) → h.items ≡ i ∷ is → Onward h (record { items = is; marks = h.marks; room = h.room; renders = h.renders })
onward_taken h i is e = record { output = begins_refl h.marks; input = (i ∷ [], e); room = refl; renders = refl }

-- an event is said
pub onward_said : (h : Host) (e : Event) → Onward h (record { items = h.items; marks = h.marks ++ h.renders e; room = h.room; renders = h.renders })
onward_said h e = record { output = (h.renders e, refl); input = ([], refl); room = refl; renders = refl }
