-- Parts that may all end in their starting ticks.
use Rattle.std.proofs.Common.{◌≡◌, ◌&&◌, List, [], ◌∷◌, sym, ap, ◌∙◌}
use Rattle.std.specs.List.{list_all}
use Rattle.kernel_terms.specs.Statements.{Stmt, sequence, sequence_from, parallel, parallel_from}
use Rattle.kernel_terms.specs.MayEnd.{ends0}
use Rattle.tick_tree.proofs.PartLists.{and_true}

pub end-sequence_from : (p : Stmt) (ps : List Stmt) → ends0 (sequence_from p ps) ≡ list_all ends0 (p ∷ ps)
end-sequence_from p [] = sym (and_true (ends0 p))
end-sequence_from p (q ∷ ps) = ap (λ b. ends0 p && b) (end-sequence_from q ps)

end-parallel_from : (p : Stmt) (ps : List Stmt) → ends0 (parallel_from p ps) ≡ list_all ends0 (p ∷ ps)
end-parallel_from p [] = sym (and_true (ends0 p))
end-parallel_from p (q ∷ ps) = ap (λ b. ends0 p && b) (end-parallel_from q ps)

pub end_in_turn : (p : Stmt) (ps : List Stmt) → p ≡ sequence ps → ends0 p ≡ list_all ends0 ps
end_in_turn p [] h = ap ends0 h
end_in_turn p (q ∷ ps) h = ap ends0 h ∙ end-sequence_from q ps

pub end_beside : (p : Stmt) (ps : List Stmt) → p ≡ parallel ps → ends0 p ≡ list_all ends0 ps
end_beside p [] h = ap ends0 h
end_beside p (q ∷ ps) h = ap ends0 h ∙ end-parallel_from q ps
