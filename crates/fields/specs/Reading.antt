-- A job read field by field, document 01, "Operations and what they refuse", Job: refusals 13, 14 and 15.
use Rattle.std.specs.Prelude.{cond, not, Option, None, Some, List, [], ◌∷◌, ◌++◌, ℕ, zero, suc, eqb, length}
use Rattle.fields.specs.Bytes.{field_tag, header_of, field_value, field_rest}
use Rattle.fields.specs.Parts.{Field, field_of, job_kind, job_sizes, job_steps, last_tag}
use Rattle.fields.specs.Grammar.{may_follow, may_end, length_right}
use Rattle.fields.specs.declared.Header.{Header}

-- the number that refuses a field by its header, behind a last tag, a number of steps and a number of sizes, or 0
unfoldable pub header_refusal : Option Header → ℕ → ℕ → ℕ → ℕ → ℕ
header_refusal None kind last steps sizes = 13
header_refusal (Some h) kind last steps sizes =
    cond (not (may_follow kind last steps h.tag)) 14
    (cond (not (length_right sizes h.tag h.length)) 15 0)

-- the number that refuses the first field of a rest, behind the fields read so far, or 0
unfoldable pub field_refusal : List Field → List ℕ → ℕ
field_refusal done rest = header_refusal (header_of rest) (job_kind done) (last_tag done) (length (job_steps done)) (length (job_sizes done))

unfoldable pub first_field : List ℕ → Field
first_field rest = field_of (field_tag rest) (field_value rest)

pub data Fields : Type 0 where
  refused : ℕ → Fields
  complete : List Field → Fields

-- each field in turn, behind those read so far. At most k are left
unfoldable pub read_fields : ℕ → List Field → List ℕ → Fields
read_fields zero done rest = complete done
read_fields (suc k) done rest =
    cond (eqb (length rest) 0)
    (cond (may_end (job_kind done) (last_tag done)) (complete done) (refused 14))
    (cond (eqb (field_refusal done rest) 0)
    (read_fields k (done ++ (first_field rest ∷ [])) (field_rest rest))
    (refused (field_refusal done rest)))

-- each field takes bytes, so fewer are left than bytes and one
unfoldable pub job_fields : List ℕ → Fields
job_fields job = read_fields (suc (length job)) [] job

-- the fields of a job that is complete
unfoldable pub fields_of : Fields → List Field
fields_of (refused number) = []
fields_of (complete fields) = fields
