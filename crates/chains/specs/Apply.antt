-- Accepted steps applied to a list of sizes, document 01, "Jobs".
use Rattle.std.specs.Prelude.{◌≡◌, List, map, ℕ, ◌-◌, ◌/◌, ◌%◌, ◌≤◌, length}
use Rattle.functions.specs.Words.{limit, EachWithin}
use Rattle.fields.specs.Parts.{Step}
use Rattle.chains.specs.Chain.{step_image, step_scale, step_refusal, chain_image, chain_scale, ChainAccepted}

-- a step that is accepted at the capacity c, and sizes within it
pub record Appliable (c : ℕ) (s : Step) (sizes : List ℕ) : Type 0 where
  pub accepted : step_refusal c s ≡ 0
  pub within : EachWithin c sizes

-- the step applied: its scale, and the images
pub record Applied (c : ℕ) (s : Step) (sizes : List ℕ) (scale : ℕ) (images : List ℕ) : Type 0 where
  pub scale_is : scale ≡ step_scale c s
  pub images_are : images ≡ map (step_image c s) sizes

-- the bytes of a table, and sizes within its capacity
pub record EntriesFor (bytes sizes : List ℕ) : Type 0 where
  pub some : 4 ≤ length bytes
  pub whole : length bytes % 4 ≡ 0
  pub within : EachWithin (length bytes / 4 - 1) sizes

-- a chain applied: its scale, and the images
pub record ChainApplied (c : ℕ) (steps : List Step) (sizes : List ℕ) (scale : ℕ) (images : List ℕ) : Type 0 where
  pub scale_is : scale ≡ chain_scale c steps
  pub images_are : images ≡ map (chain_image c steps) sizes

-- a chain that is accepted from the capacity c on, and sizes within it
pub record ChainAppliable (c : ℕ) (steps : List Step) (sizes : List ℕ) : Type 0 where
  pub positive : 1 ≤ c
  pub in_limit : c ≤ limit
  pub accepted : ChainAccepted c steps
  pub within : EachWithin c sizes
