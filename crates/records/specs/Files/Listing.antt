-- Document 01, Record file: what the listing program prints.
use Rattle.std.specs.Prelude.{ℕ, ◌+◌, ◌*◌, List, [], ◌∷◌, ◌++◌, length, ltb}
use Rattle.decimal.specs.declared.image.Image.{Image}
use Rattle.decimal.specs.Answer.{Answer, done, refused, ◌then◌, pick, given}
use Rattle.codec.specs.Contents.{Table}
use Rattle.codec.specs.Answers.{within}
use Rattle.codec.specs.Unpacking.{unpack_body}
use Rattle.codec.specs.Bodies.{body_text}
use Rattle.codec.specs.Alpha.{blank_byte, alpha_texts, parted}
use Rattle.codec.specs.Walking.{line_end}
use Rattle.records.specs.Files.Writing.{decimal_text}
use Rattle.records.specs.Files.RecordFile.{read_file, record_count, bodies_in}

-- The words of the listing, each with the blank behind it.

-- columns
abbrev pub columns_word : List ℕ
columns_word = 0x63 ∷ (0x6F ∷ (0x6C ∷ (0x75 ∷ (0x6D ∷ (0x6E ∷ (0x73 ∷ (0x20 ∷ [])))))))

-- records
abbrev pub records_word : List ℕ
records_word = 0x72 ∷ (0x65 ∷ (0x63 ∷ (0x6F ∷ (0x72 ∷ (0x64 ∷ (0x73 ∷ (0x20 ∷ [])))))))

-- refused
abbrev pub refused_word : List ℕ
refused_word = 0x72 ∷ (0x65 ∷ (0x66 ∷ (0x75 ∷ (0x73 ∷ (0x65 ∷ (0x64 ∷ (0x20 ∷ [])))))))

-- The lines. Every line ends with byte 0A.

-- a word and a count
unfoldable pub count_line : List ℕ → ℕ → List ℕ
count_line word n = word ++ (decimal_text n ++ (line_end ∷ []))

-- a record's alpha texts, parted by one blank
unfoldable pub record_line : List (List ℕ) → List ℕ
record_line texts = parted texts ++ (line_end ∷ [])

-- the lines of records, by their bodies; 7 and the column within the first bad record
unfoldable pub record_lines : List Image → List (List ℕ) → Answer (List ℕ)
record_lines ims [] = done []
record_lines ims (body ∷ bs) =
    unpack_body ims body then λ ns.
    (alpha_texts ims ns then λ texts. (record_lines ims bs then λ lines. done (record_line texts ++ lines)))

-- the lines of a file's records
abbrev pub file_lines : Table → List ℕ → Answer (List ℕ)
file_lines table file = record_lines table.images (bodies_in table file)

-- a listing: `columns` and their count, a line for each record, `records` and their count
unfoldable pub listing_of : Table → List ℕ → List ℕ → List ℕ
listing_of table file lines =
    count_line columns_word (length table.images) ++ (lines ++ count_line records_word (record_count table file))

-- the listing of a file: refused as the file is, then with 7
unfoldable pub listing : List ℕ → Answer (List ℕ)
listing file = read_file file then λ table. (file_lines table file then λ lines. done (listing_of table file lines))

-- a file whose bodies can all be read: refused as its listing is
unfoldable pub checked_file : List ℕ → Answer Table
checked_file file = read_file file then λ table. (file_lines table file then λ lines. done table)

-- the listing call, into a buffer with so much room: last 6
unfoldable pub listed : List ℕ → ℕ → Answer (List ℕ)
listed file room = listing file then within room

-- a refusal's line: `refused`, its number and place parted by one blank each
unfoldable pub refusal_line : ℕ → ℕ → List ℕ
refusal_line number place = refused_word ++ (decimal_text number ++ (blank_byte ∷ (decimal_text place ++ (line_end ∷ []))))

-- the most bytes of a file that the program takes: a longer one is refused with 11
abbrev pub max_file : ℕ
max_file = 65536

-- the most bytes that the program prints
abbrev pub max_report : ℕ
max_report = 4 * max_file + 64

-- what the program prints of its answer
unfoldable pub printed_of : Answer (List ℕ) → List ℕ
printed_of (done bytes) = bytes
printed_of (refused number place) = refusal_line number place

-- what the program prints for its input
unfoldable pub report_of : List ℕ → List ℕ
report_of input = printed_of (pick (ltb max_file (length input)) (refused 11 0) (listing input))

-- What the code's helpers ask and find.

-- the lines of a file's records, none where the file is refused
unfoldable pub lines_of : List ℕ → List ℕ
lines_of file = given (read_file file then λ table. file_lines table file)

-- the line of a body that can be read
abbrev pub body_line : List Image → List ℕ → List ℕ
body_line ims body = given (body_text ims body) ++ (line_end ∷ [])
