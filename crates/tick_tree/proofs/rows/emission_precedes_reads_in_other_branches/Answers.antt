use Rattle.std.proofs.Common.{refl, inl, inr}
use Rattle.tick_tree.proofs.rows.emission_precedes_reads_in_other_branches.Goals as goal

pub returns : goal.returns
returns c = λ at h.
    h 1 (
      3,
      (
        2,
        inl (inr (inl (inl (inr (inr (refl, inl refl)))))),
        (
          4,
          inr (2, inr (inl (inr (inl (refl, refl)))), inr (inr (inl (refl, refl)))),
          (
            5,
            inl (inr (inl (inr (inr (inr (refl, inl refl)))))),
            (1, inr (1, inr (inr (inr (inl (refl, refl)))), inr (inl (inl (refl, refl)))), refl),
          ),
        ),
      ),
    )
