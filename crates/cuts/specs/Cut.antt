-- The cut operation, document 01, "Operations and what they refuse", and document 02, requests 1 and 9: the answer to a job of one row or of many, what the
-- lent buffers hold afterwards, and what is promised of both.
use Rattle.std.specs.Prelude.{cond, ◌≡◌, List, [], ◌∷◌, ◌++◌, map, ℕ, ◌≤◌, ◌<◌, eqb, length, get_or, take, drop}
use Rattle.functions.specs.Words.{weighted}
use Rattle.fields.specs.Parts.{Field, Step, Row, job_kind, job_capacity, job_sizes, job_steps, job_rows, coefficient_count}
use Rattle.fields.specs.Grammar.{rows_kind}
use Rattle.fields.specs.Record.{no_row}
use Rattle.chains.specs.Chain.{chain_image, chain_scale}
use Rattle.chains.specs.Judge.{Judgement, StepOvershoots, list_by}
use Rattle.jobs.specs.Kinds.{cut_kind}
use Rattle.jobs.specs.Job.{start_capacity, written, answer_by, written_by}
use Rattle.cuts.specs.declared.CutAnswer.{CutAnswer}

-- the images of a row, and its scale, document 01's E; the images of rows one behind the other
unfoldable pub row_images : List Step → Row → List ℕ
row_images steps r = map (chain_image r.right_side steps) r.coefficients

unfoldable pub row_scale : List Step → Row → ℕ
row_scale steps r = chain_scale r.right_side steps

unfoldable pub rows_images : List Step → List Row → List ℕ
rows_images steps [] = []
rows_images steps (r ∷ rows) = row_images steps r ++ rows_images steps rows

-- the row of a job of kind 2: its sizes are the coefficients, and its capacity is the right side
abbrev pub one_row : List Field → Row
one_row fields = record { right_side = job_capacity fields; coefficients = job_sizes fields }

-- the images of a job's row or rows, how many there are, and the scales of many rows
unfoldable pub cut_images : List Field → List ℕ
cut_images fields =
    cond (eqb (job_kind fields) rows_kind)
    (rows_images (job_steps fields) (job_rows fields))
    (row_images (job_steps fields) (one_row fields))

unfoldable pub cut_count : List Field → ℕ
cut_count fields = cond (eqb (job_kind fields) rows_kind) (coefficient_count (job_rows fields)) (length (job_sizes fields))

unfoldable pub cut_scales : List Field → List ℕ
cut_scales fields = cond (eqb (job_kind fields) rows_kind) (map (row_scale (job_steps fields)) (job_rows fields)) []

-- the answer to a job that is accepted, where many rows have their scales in their buffer, and to one that is refused
unfoldable pub accepted_cut : List Field → CutAnswer
accepted_cut fields =
    record {
      number = 0;
      n = cut_count fields;
      scale = cond (eqb (job_kind fields) rows_kind) 0 (row_scale (job_steps fields) (one_row fields));
      step = 0;
      length = 0;
      row = 0;
    }

unfoldable pub refused_cut : Judgement → CutAnswer
refused_cut r = record { number = r.number; n = 0; scale = 0; step = r.step; length = length r.list; row = r.row }

-- an accepted job finished: the answer, and the buffers of images and of scales
pub record CutFinished (fields : List Field) (images scales : List ℕ) (answer : CutAnswer) (images' scales' : List ℕ) : Type 0 where
  pub answer_is : answer ≡ accepted_cut fields
  pub images_are : images' ≡ written (cut_images fields) images
  pub scales_are : scales' ≡ written (cut_scales fields) scales

-- the cut of a row, its images from the start of `images` on, holds for all counts that satisfy the row
unfoldable pub CutHolds : Row → List ℕ → ℕ → Type 0
CutHolds r images scale =
    (counts : List ℕ) → length counts ≡ length r.coefficients → weighted counts r.coefficients ≤ r.right_side → weighted counts (take (length r.coefficients) images) ≤ scale

-- row i: its own right side, its images behind those of the rows before, and its scale in its own place
unfoldable pub RowHolds : List Row → List ℕ → List ℕ → ℕ → Type 0
RowHolds rows images scales i = CutHolds (get_or rows i no_row) (drop (coefficient_count (take i rows)) images) (get_or scales i 0)

-- P4 of cuts: what an accepted job answers holds for its own row, or for each of its rows. `images` and `scales` are the buffers afterwards
pub record CutsHold (fields : List Field) (answer : CutAnswer) (images scales : List ℕ) : Type 0 where
  pub cut_holds : job_kind fields ≡ cut_kind → CutHolds (one_row fields) images answer.scale
  pub every_row_holds : job_kind fields ≡ rows_kind → (i : ℕ) → i < length (job_rows fields) → RowHolds (job_rows fields) images scales i

-- the whole operation, by what judges the job: its answer, and every place of the buffers that it is lent, `images` and so on before and `images'` and so on
-- afterwards; of the working buffer the length alone
pub record CutAnswered (fields : List Field) (r : Judgement) (images working list scales : List ℕ) (answer : CutAnswer) (images' working' list' scales' : List ℕ) : Type 0 where
  pub answer_is : answer ≡ answer_by r (accepted_cut fields) (refused_cut r)
  pub images_are : images' ≡ written_by r (cut_images fields) images
  pub list_is : list' ≡ list_by r list
  pub scales_are : scales' ≡ written_by r (cut_scales fields) scales
  pub working_long : length working' ≡ length working
  pub overshoots : answer.number ≡ 11 → StepOvershoots (start_capacity fields answer.row) (job_steps fields) answer.step (take answer.length list')
  pub holds : answer.number ≡ 0 → CutsHold fields answer images' scales'
