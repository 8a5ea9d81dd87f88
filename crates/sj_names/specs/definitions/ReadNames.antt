-- The names that were read of a tree.
use Rattle.std.specs.Prelude.{map}
use Rattle.sj_names.specs.declared.program.TreeNames as read
use Rattle.sj_names.specs.definitions.Mentions.{TreeMentions}

abbrev pub tree_names_of : read.TreeNames → TreeMentions
tree_names_of names =
    record {
      ports = names.ports.items;
      domains = map (λ mentions. mentions.items) names.domains.items;
      places = names.places.items;
    }
