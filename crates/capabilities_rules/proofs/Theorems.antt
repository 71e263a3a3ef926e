-- The theorems of specs/Theorems.antt, each from the file that proves it.
use Rattle.capabilities_rules.specs.Theorems.{Theorems}
use Rattle.capabilities_rules.proofs.Acceptance.{fits_read, read_fits, text-nodes}
use Rattle.capabilities_rules.proofs.Unique.{unique}
use Rattle.capabilities_rules.proofs.Words.{longest, runs}
use Rattle.capabilities_rules.proofs.Refusals.{refusals}
use Rattle.capabilities_rules.proofs.Exactly.{exactly}
use Rattle.capabilities_rules.proofs.Prefixes.{viable-run, run-viable, viable-capped, capped-viable, viable-shorter}

pub theorems : Theorems
theorems = record {
  accepts = fits_read;
  accepted = read_fits;
  unique = λ s xs ys. unique;
  noded = text-nodes;
  longest = longest;
  runs = runs;
  refusals = refusals;
  exactly = λ room k p s. exactly room s;
  viable-passes = viable-run;
  passes-viable = run-viable;
  capped-passes = viable-capped;
  passes-capped = capped-viable;
  shorter = viable-shorter;
}
