-- Parts of a source, one after another.
use Rattle.std.proofs.Common.{◌≡◌, List, [], ◌∷◌, map, ap, sym, ◌∙◌, append_assoc, append-nil}
use Rattle.sj_names.specs.definitions.Mentions.{Told, NamedPart, behind, in_order, silent, then}

behind_both : (t : Told) (first second : NamedPart) → behind (behind t first) second ≡ behind t (then first second)
behind_both t first second = ap (λ l. let x : Told = record { scope = (second (first t.scope).scope).scope; mentions = l } in x) (append_assoc t.mentions (first t.scope).mentions (second (first t.scope).scope).mentions)

behind_none : (t : Told) → behind t silent ≡ t
behind_none t = ap (λ l. let x : Told = record { scope = t.scope; mentions = l } in x) (append-nil t.mentions)

-- the next part is read
pub parts_next : {X : Type 0} (part : X → NamedPart) (t u : Told) (rest more : List X) (x : X) → rest ≡ x ∷ more → u ≡ behind t (part x) → behind t (in_order (map part rest)) ≡ behind u (in_order (map part more))
parts_next part t u rest more x e h = ap (λ l. behind t (in_order (map part l))) e ∙ sym (behind_both t (part x) (in_order (map part more))) ∙ ap (λ v. behind v (in_order (map part more))) (sym h)

-- all parts are read
pub parts_end : {X : Type 0} (part : X → NamedPart) (t : Told) (rest : List X) → rest ≡ [] → behind t (in_order (map part rest)) ≡ t
parts_end part t rest e = ap (λ l. behind t (in_order (map part l))) e ∙ behind_none t
