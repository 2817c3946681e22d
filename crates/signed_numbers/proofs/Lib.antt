mod Signed
