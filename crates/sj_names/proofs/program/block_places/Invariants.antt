use Rattle.std.proofs.Common.{◌≡◌, ◌++◌, drop, map}
use Rattle.sj_names.specs.definitions.Mentions.{block_place}
use Rattle.sj_names.proofs.program.block_places.Given as goal

abbrev pub invariant-loop-block : goal.invariant-loop-block
invariant-loop-block l = map block_place l.blocks ≡ l.places.items ++ map block_place (drop l.block-index l.blocks)
