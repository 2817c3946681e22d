mod Scripts
mod RefForms
